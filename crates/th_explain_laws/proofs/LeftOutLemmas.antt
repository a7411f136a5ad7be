-- A number that only one observation has: it is freed where that observation is left out.
use Rattle.std.proofs.Common.{◌≡◌, ℕ, zero, suc, ◌+◌, ◌*◌, ◌<◌, ◌≤◌, ℤ, pos, ◌+ℤ◌, ◌-ℤ◌, ◌*ℤ◌, List, [], ◌∷◌, ◌++◌, All, sum_by, unsigned_abs, refl, ap, ◌∙◌, arith, mul-le-mul_left}
use Rattle.std.specs.List.{AllByRecursion}
use Rattle.std.proofs.lemmas.Int.{ints}
use Rattle.std.proofs.lemmas.List.Sums.{sum_by-append, sum_by-cons}
use Rattle.std.proofs.lemmas.List.Elements.{recursion_from_All}
use Rattle.std.proofs.Math.IntN.{*ℤ-zero}
use Rattle.th_observations.specs.Observed.{Observed}
use Rattle.th_tables.specs.Rows.{BenchmarkRows, WeightRows, weight_of}
use Rattle.th_network.specs.Heights.{IsHeights, Least, residual, cost}
use Rattle.th_network.specs.Networks.{Survey, surveyed}
use Rattle.th_changes.specs.declared.numbers.Number.{Number}
use Rattle.th_changes.specs.Numbers.{touch, changed}
use Rattle.th_changes.specs.Freed.{Costs, IsFreed, IsProposed, Keeps, cost_of}
use Rattle.th_changes.proofs.Tilts.{tilted}
use Rattle.th_changes.proofs.Changes.{lowered, raised, lowered_raised, cost_changed, keeps_lowered, keeps_raised}

-- a sum over the observations is the one's part and the others'
split : (f : Observed → ℕ) (before after : List Observed) (o : Observed) → sum_by f (before ++ o ∷ after) ≡ f o + sum_by f (before ++ after)
split f before after o =
    let all = sum_by-append f before (o ∷ after) in
    let first = sum_by-cons f o after in
    let others = sum_by-append f before after in
    omega arith

untouched : (number : Number) (x : ℤ) (weights : WeightRows) (heights : List ℕ → ℤ) (observations : List Observed) → AllByRecursion (λ o. touch number o ≡ pos 0) observations → tilted (λ o. x *ℤ touch number o) observations weights heights ≡ cost observations weights heights
untouched number x weights heights [] none = refl
untouched number x weights heights (o ∷ observations) none =
    let w = weight_of weights o.station o.target in
    let a = sum_by-cons (λ o. weight_of weights o.station o.target * unsigned_abs (residual o heights +ℤ x *ℤ touch number o)) o observations in
    let b = sum_by-cons (λ o. weight_of weights o.station o.target * unsigned_abs (residual o heights)) o observations in
    let zero = ap (λ z. x *ℤ z) none.0 ∙ *ℤ-zero x in
    let same : residual o heights +ℤ x *ℤ touch number o ≡ residual o heights = omega (arith, ints) in
    let one = ap (λ r. w * unsigned_abs r) same in
    let rest = untouched number x weights heights observations none.1 in
    omega arith

fitted : (w : ℕ) (r t : ℤ) → t ≡ pos 1 → w * unsigned_abs (r +ℤ (pos 0 -ℤ r) *ℤ t) ≡ 0
fitted w r t one =
    let times = ap (λ z. (pos 0 -ℤ r) *ℤ z) one in
    let none : unsigned_abs (r +ℤ (pos 0 -ℤ r) *ℤ t) ≤ 0 = omega (arith, ints) in
    let scaled = mul-le-mul_left w none in
    omega arith

pub left_out : (number : Number) (before after : List Observed) (o : Observed) (benchmarks : BenchmarkRows) (weights : WeightRows) (heights : List ℕ → ℤ) → touch number o ≡ pos 1 → All (λ other. touch number other ≡ pos 0) (before ++ after) → Least (before ++ after) benchmarks weights heights → IsFreed (surveyed (before ++ o ∷ after) benchmarks weights) number (cost (before ++ after) weights heights)
left_out number before after o benchmarks weights heights one none best = record {
  reached = (x, (raised number x heights, keeps_raised survey number x heights best.kept, reaches));
  least = at_least;
}
  where
    survey : Survey
    survey = surveyed (before ++ o ∷ after) benchmarks weights

    x : ℤ
    x = pos 0 -ℤ residual o heights

    others_same : (y : ℤ) (g : List ℕ → ℤ) → tilted (λ o. y *ℤ touch number o) (before ++ after) weights g ≡ cost (before ++ after) weights g
    others_same y g = untouched number y weights g (before ++ after) (recursion_from_All (λ other. touch number other ≡ pos 0) (before ++ after) none)

    part : ℤ → (List ℕ → ℤ) → Observed → ℕ
    part y g other = weight_of weights other.station other.target * unsigned_abs (residual other g +ℤ y *ℤ touch number other)

    reaches : cost_of (changed number x survey) (raised number x heights) ≡ cost (before ++ after) weights heights
    reaches =
        let same = cost_changed survey number x (raised number x heights) ∙ ap (λ h. tilted (λ o. x *ℤ touch number o) (before ++ o ∷ after) weights h) (lowered_raised number x heights) in
        let parts = split (part x heights) before after o in
        let fits = fitted (weight_of weights o.station o.target) (residual o heights) (touch number o) one in
        let rest = others_same x heights in
        omega arith

    at_least : (y : ℤ) (others : List ℕ → ℤ) → Keeps (changed number y survey) others → cost (before ++ after) weights heights ≤ cost_of (changed number y survey) others
    at_least y others kept =
        let same = cost_changed survey number y others in
        let parts = split (part y (lowered number y others)) before after o in
        let rest = others_same y (lowered number y others) in
        let least = best.least (lowered number y others) (keeps_lowered survey number y others kept) in
        omega arith

-- ---- what is proposed for it is what best heights of the others say
nothing_and : (n : ℕ) → 0 + n ≡ n
nothing_and n = omega arith

module _ (number : Number) (before after : List Observed) (o : Observed) (benchmarks : BenchmarkRows) (weights : WeightRows) (one : touch number o ≡ pos 1) (none : All (λ other. touch number other ≡ pos 0) (before ++ after)) where
  abbrev whole : Survey
  whole = surveyed (before ++ o ∷ after) benchmarks weights

  -- what a change and heights cost: the observation's part, and the others'
  parts_of : (y : ℤ) (g : List ℕ → ℤ) → tilted (λ o. y *ℤ touch number o) (before ++ o ∷ after) weights g ≡ weight_of weights o.station o.target * unsigned_abs (residual o g +ℤ y *ℤ touch number o) + cost (before ++ after) weights g
  parts_of y g =
      let parts = split (λ other. weight_of weights other.station other.target * unsigned_abs (residual other g +ℤ y *ℤ touch number other)) before after o in
      let rest = untouched number y weights g (before ++ after) (recursion_from_All (λ other. touch number other ≡ pos 0) (before ++ after) none) in
      omega arith

  -- heights that the others cost so much at, with the change for which the observation fits them
  reached_at : (g : List ℕ → ℤ) → IsHeights benchmarks g → Costs whole number (pos 0 -ℤ residual o g) (cost (before ++ after) weights g)
  reached_at g kept =
      let x = pos 0 -ℤ residual o g in (
        raised number x g,
        keeps_raised whole number x g kept,
        cost_changed whole number x (raised number x g) ∙ ap (λ h. tilted (λ o. x *ℤ touch number o) (before ++ o ∷ after) weights h) (lowered_raised number x g)
            ∙ parts_of x g ∙ ap (λ n. n + cost (before ++ after) weights g) (fitted (weight_of weights o.station o.target) (residual o g) (touch number o) one) ∙ nothing_and (cost (before ++ after) weights g),
      )

  pub proposed_at_best : (heights : List ℕ → ℤ) → Least (before ++ after) benchmarks weights heights → IsProposed whole number (pos 0 -ℤ residual o heights)
  proposed_at_best heights best = record {
    freed = cost (before ++ after) weights heights;
    is_freed = left_out number before after o benchmarks weights heights one none best;
    reached = reached_at heights best.kept;
  }

  no_part : (w part : ℕ) → 0 < w → w * part ≤ 0 → part ≡ 0
  no_part w zero some less = refl
  no_part w (suc part) some less =
      let scaled = mul-le-mul_left w (one_more part) in
      absurd (omega (arith, some, less))
    where
      one_more : (n : ℕ) → 1 ≤ suc n
      one_more n = omega arith

  sum_of : (r x t : ℤ) → t ≡ pos 1 → unsigned_abs (r +ℤ x *ℤ t) ≡ 0 → r +ℤ x ≡ pos 0
  sum_of r x t same none = let times = ap (λ z. x *ℤ z) same in omega (arith, ints)

  pub best_of_proposed : (x : ℤ) → 0 < weight_of weights o.station o.target → IsProposed whole number x → (heights : List ℕ → ℤ) × Least (before ++ after) benchmarks weights heights × (residual o heights +ℤ x ≡ pos 0)
  best_of_proposed x some is = by is.reached
    where
      least : (g : List ℕ → ℤ) → IsHeights benchmarks g → is.freed ≤ cost (before ++ after) weights g
      least g kept =
          let (own, keeps, costs) = reached_at g kept in
          let less = is.is_freed.least (pos 0 -ℤ residual o g) own keeps in
          omega arith

      by : Costs whole number x is.freed → (heights : List ℕ → ℤ) × Least (before ++ after) benchmarks weights heights × (residual o heights +ℤ x ≡ pos 0)
      by (own, keeps, costs) =
          let h = lowered number x own in
          let kept = keeps_lowered whole number x own keeps in
          let whole_cost = cost_changed whole number x own in
          let parts = parts_of x h in
          let most = least h kept in
          let nothing = no_part (weight_of weights o.station o.target) (unsigned_abs (residual o h +ℤ x *ℤ touch number o)) some (omega arith) in (
            h,
            record {
              kept = kept;
              least = λ others others_kept. let more = least others others_kept in omega arith;
            },
            sum_of (residual o h) x (touch number o) one nothing,
          )
