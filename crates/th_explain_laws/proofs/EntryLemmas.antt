-- The sights of an entry, from a point of their own: the number that is added to them is freed there.
use Rattle.std.proofs.Common.{◌≡◌, ◌≢◌, ℕ, Bool, true, false, ◌*◌, ℤ, pos, ◌+ℤ◌, ◌-ℤ◌, ◌*ℤ◌, List, [], ◌∷◌, All, Some, None, bytes_eq, if◌then◌else◌, map, unsigned_abs, refl, ap, ◌∙◌, sym, arith}
use Rattle.std.specs.List.{AllByRecursion}
use Rattle.std.proofs.lemmas.Int.{ints}
use Rattle.std.proofs.lemmas.List.Sums.{sum_by-cons}
use Rattle.std.proofs.lemmas.List.Elements.{recursion_from_All}
use Rattle.std.proofs.lemmas.Slice.Eq.{bytes_eq-Decides}
use Rattle.th_observations.specs.Observed.{Observed}
use Rattle.th_tables.specs.Rows.{WeightRows, height_of, weight_of}
use Rattle.th_network.specs.Heights.{Least, residual, cost}
use Rattle.th_network.specs.Networks.{Survey}
use Rattle.th_reliability.specs.Sights.{in_sights}
use Rattle.th_reliability.specs.declared.sights.Sights.{Sights}
use Rattle.th_changes.specs.declared.numbers.Number.{Number}
use Rattle.th_changes.specs.declared.numbers.Number.TheVariants.{Added}
use Rattle.th_changes.specs.Numbers.{touch, changed}
use Rattle.th_changes.specs.Freed.{Costs, IsFreed, IsProposed, Keeps, cost_of}
use Rattle.th_explain_laws.specs.Parted.{IsParted, parted}
use Rattle.th_changes.proofs.Tilts.{tilted}
use Rattle.th_changes.proofs.Changes.{lowered, raised, lowered_raised, cost_changed, keeps_lowered, keeps_raised}

-- one observation: the sight from its own point, and the changed sight
one_parted : (b : Bool) (x d ht hs hv hp : ℤ) → x ≡ hp -ℤ hv → (b ≡ true → hs ≡ hv) → d -ℤ (ht -ℤ (if b then hp else hs)) ≡ d -ℤ (ht -ℤ hs) +ℤ x *ℤ ((if b then pos 1 else pos 0) +ℤ pos 0 -ℤ pos 0)
one_parted true x d ht hs hv hp same of = let at = of refl in omega (arith, ints)
one_parted false x d ht hs hv hp same of = omega (arith, ints)

chosen : (b : Bool) (own station : List ℕ) (heights : List ℕ → ℤ) → heights (if b then own else station) ≡ (if b then heights own else heights station)
chosen true own station heights = refl
chosen false own station heights = refl

parted_cost : (sights : Sights) (station own : List ℕ) (x : ℤ) (weights new : WeightRows) (heights : List ℕ → ℤ) (observations : List Observed) → x ≡ heights own -ℤ heights station → AllByRecursion (λ o. IsParted sights station own weights new o) observations → cost (map (parted sights own) observations) new heights ≡ tilted (λ o. x *ℤ touch (Added sights) o) observations weights heights
parted_cost sights station own x weights new heights [] same all = refl
parted_cost sights station own x weights new heights (o ∷ observations) same all =
    let p = parted sights own o in
    let a = sum_by-cons (λ o. weight_of new o.station o.target * unsigned_abs (residual o heights)) p (map (parted sights own) observations) in
    let b = sum_by-cons (λ o. weight_of weights o.station o.target * unsigned_abs (residual o heights +ℤ x *ℤ touch (Added sights) o)) o observations in
    let size : residual p heights ≡ residual o heights +ℤ x *ℤ touch (Added sights) o =
    ap (λ h. o.difference -ℤ (heights o.target -ℤ h)) (chosen (in_sights sights o) own o.station heights)
    ∙ one_parted (in_sights sights o) x o.difference (heights o.target) (heights o.station) (heights station) (heights own) same (λ e. ap heights (all.0.of_station e)) in
    let one = ap (λ r. weight_of new p.station p.target * unsigned_abs r) size in
    let weigh = ap (λ w. w * unsigned_abs (residual o heights +ℤ x *ℤ touch (Added sights) o)) all.0.weighed in
    let rest = parted_cost sights station own x weights new heights observations same all.1 in
    omega arith

-- heights with one for the point of their own
abbrev placed : List ℕ → ℤ → (List ℕ → ℤ) → List ℕ → ℤ
placed own height heights name = if bytes_eq own name then height else heights name

placed_own : (own : List ℕ) (height : ℤ) (heights : List ℕ → ℤ) → placed own height heights own ≡ height
placed_own own height heights = by (bytes_eq own own) (bytes_eq-Decides own own).1
  where
    by : (b : Bool) → (own ≡ own → b ≡ true) → (if b then height else heights own) ≡ height
    by true e = refl
    by false e = absurd (clash (e refl))
      where
        clash : false ≡ true → ⊥
        clash same = absurd (grind arith)

placed_other : (own name : List ℕ) (height : ℤ) (heights : List ℕ → ℤ) → own ≢ name → placed own height heights name ≡ heights name
placed_other own name height heights other = by (bytes_eq own name) (bytes_eq-Decides own name).0
  where
    by : (b : Bool) → (b ≡ true → own ≡ name) → (if b then height else heights name) ≡ heights name
    by true e = absurd (other (e refl))
    by false e = refl

-- no end is the point of their own, so the others do not see it
placed_cost : (sights : Sights) (station own : List ℕ) (height x : ℤ) (weights new : WeightRows) (heights : List ℕ → ℤ) (observations : List Observed) → AllByRecursion (λ o. IsParted sights station own weights new o) observations → tilted (λ o. x *ℤ touch (Added sights) o) observations weights (placed own height heights) ≡ tilted (λ o. x *ℤ touch (Added sights) o) observations weights heights
placed_cost sights station own height x weights new heights [] all = refl
placed_cost sights station own height x weights new heights (o ∷ observations) all =
    let a = sum_by-cons (λ o. weight_of weights o.station o.target * unsigned_abs (residual o (placed own height heights) +ℤ x *ℤ touch (Added sights) o)) o observations in
    let b = sum_by-cons (λ o. weight_of weights o.station o.target * unsigned_abs (residual o heights +ℤ x *ℤ touch (Added sights) o)) o observations in
    let s = placed_other own o.station height heights all.0.no_station in
    let t = placed_other own o.target height heights all.0.no_target in
    let same : residual o (placed own height heights) +ℤ x *ℤ touch (Added sights) o ≡ residual o heights +ℤ x *ℤ touch (Added sights) o = omega (arith, ints) in
    let one = ap (λ r. weight_of weights o.station o.target * unsigned_abs r) same in
    let rest = placed_cost sights station own height x weights new heights observations all.1 in
    omega arith

module _ (survey : Survey) (sights : Sights) (station own : List ℕ) (new : WeightRows) (apart : own ≢ station) (free : height_of survey.benchmarks own ≡ None) (all : All (λ o. IsParted sights station own survey.weights new o) survey.observations) where
  abbrev number : Number
  number = Added sights

  abbrev others_of : List Observed
  others_of = map (parted sights own) survey.observations

  each : AllByRecursion (λ o. IsParted sights station own survey.weights new o) survey.observations
  each = recursion_from_All (λ o. IsParted sights station own survey.weights new o) survey.observations all

  -- heights of the parted survey are heights with the change by which their own point is higher than the station
  reached_at : (heights : List ℕ → ℤ) → Keeps survey heights → Costs survey number (heights own -ℤ heights station) (cost others_of new heights)
  reached_at heights kept =
      let x = heights own -ℤ heights station in (
        raised number x heights,
        keeps_raised survey number x heights kept,
        cost_changed survey number x (raised number x heights)
            ∙ ap (λ h. tilted (λ o. x *ℤ touch number o) survey.observations survey.weights h) (lowered_raised number x heights)
            ∙ sym (parted_cost sights station own x survey.weights new heights survey.observations refl each),
      )

  keeps_placed : (height : ℤ) (g : List ℕ → ℤ) → Keeps survey g → Keeps survey (placed own height g)
  keeps_placed height g kept name listed_height listed = placed_other own name height g (λ same. absurd (clash (ap (height_of survey.benchmarks) same))) ∙ kept name listed_height listed
    where
      clash : height_of survey.benchmarks own ≡ height_of survey.benchmarks name → ⊥
      clash same = none_some (sym free ∙ same ∙ listed)
        where
          none_some : None ≡ Some listed_height → ⊥
          none_some e = absurd (grind arith)

  -- and heights with a change are heights of the parted survey, with a place for their own point
  parted_at : ℤ → (List ℕ → ℤ) → List ℕ → ℤ
  parted_at y others = placed own (lowered number y others station +ℤ y) (lowered number y others)

  keeps_parted : (y : ℤ) (others : List ℕ → ℤ) → Keeps (changed number y survey) others → Keeps survey (parted_at y others)
  unfolding parted_at
  keeps_parted y others kept = keeps_placed (lowered number y others station +ℤ y) (lowered number y others) (keeps_lowered survey number y others kept)

  rise : (y : ℤ) (others : List ℕ → ℤ) → y ≡ parted_at y others own -ℤ parted_at y others station
  unfolding parted_at
  rise y others =
      let g = lowered number y others in
      let up = placed_own own (g station +ℤ y) g in
      let at = placed_other own station (g station +ℤ y) g apart in
      omega (arith, ints)

  parted_costs : (y : ℤ) (others : List ℕ → ℤ) → cost others_of new (parted_at y others) ≡ cost_of (changed number y survey) others
  unfolding parted_at
  parted_costs y others =
      let g = lowered number y others in
      parted_cost sights station own y survey.weights new (parted_at y others) survey.observations (rise y others) each
      ∙ placed_cost sights station own (g station +ℤ y) y survey.weights new g survey.observations each
      ∙ sym (cost_changed survey number y others)

  pub parted_freed : (heights : List ℕ → ℤ) → Least others_of survey.benchmarks new heights → IsFreed survey number (cost others_of new heights)
  parted_freed heights best = record {
    reached = (heights own -ℤ heights station, reached_at heights best.kept);
    least = λ y others kept.
        let least = best.least (parted_at y others) (keeps_parted y others kept) in
        let same = parted_costs y others in
        omega arith;
  }

  -- ---- what is proposed is what best heights of the parted survey say
  pub proposed_at_best : (heights : List ℕ → ℤ) → Least others_of survey.benchmarks new heights → IsProposed survey number (heights own -ℤ heights station)
  proposed_at_best heights best = record {
    freed = cost others_of new heights;
    is_freed = parted_freed heights best;
    reached = reached_at heights best.kept;
  }

  pub best_of_proposed : (x : ℤ) → IsProposed survey number x → (heights : List ℕ → ℤ) × Least others_of survey.benchmarks new heights × (heights own -ℤ heights station ≡ x)
  best_of_proposed x is = by is.reached
    where
      by : Costs survey number x is.freed → (heights : List ℕ → ℤ) × Least others_of survey.benchmarks new heights × (heights own -ℤ heights station ≡ x)
      by (g, keeps, costs) =
          let same = parted_costs x g in (
            parted_at x g,
            record {
              kept = keeps_parted x g keeps;
              least = λ others kept.
                  let (one, one_keeps, one_cost) = reached_at others kept in
                  let less = is.is_freed.least (others own -ℤ others station) one one_keeps in
                  omega arith;
            },
            sym (rise x g),
          )
