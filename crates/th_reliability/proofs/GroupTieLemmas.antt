-- A group of observations that weighs no more than its control: heights that all others fit are least. Where it weighs just as much, so are others.
use Rattle.std.proofs.Common.{◌≡◌, ℕ, zero, suc, Bool, true, false, ◌+◌, ◌*◌, ◌≤◌, ℤ, pos, ◌+ℤ◌, ◌-ℤ◌, List, [], ◌∷◌, All, Any, Contains, if◌then◌else◌, ◌⊎◌, inl, inr, sum_by, unsigned_abs, refl, ap, ◌∙◌, mul-le-mul_left, arith}
use Rattle.std.specs.Prelude.{slice_index_or}
use Rattle.std.specs.List.{AllByRecursion}
use Rattle.std.proofs.Math.Path.{fun_ext}
use Rattle.std.proofs.lemmas.Int.{ints}
use Rattle.std.proofs.lemmas.List.Sums.{get_or-le-sum_by, sum_by-cons, sum_by-le}
use Rattle.std.proofs.lemmas.List.Elements.{recursion_from_All}
use Rattle.th_observations.specs.Observed.{Observed}
use Rattle.th_tables.specs.Rows.{WeightRows, weight_of}
use Rattle.th_points.proofs.PlaceLemmas.{ends_contained}
use Rattle.th_network.specs.Heights.{IsHeights, Least, cost, residual}
use Rattle.th_network.specs.Networks.{Survey, points_of}
use Rattle.th_reliability.specs.Cuts.{IsFreeSet, crosses, cut, differ}
use Rattle.th_reliability.specs.Groups.{own_cut}
use Rattle.th_reliability.specs.SharedMistakes.{IsFreeWithPoint, IsSharedMistake, own, rest}
use Rattle.th_reliability.specs.declared.mistakes.SharedMistake.TheVariants.{Ties}
use Rattle.th_reliability.proofs.SumLemmas.{sums-le-all, sums-plus, sums-times}
use Rattle.th_reliability.proofs.LayerLemmas.{clamped_low, cut_off, layer, layer_along, spread, spread_more}
use Rattle.th_reliability.proofs.LoweringLemmas.{layer_free, off}
use Rattle.th_reliability.proofs.BoundLemmas.{parts}
use Rattle.th_reliability.specs.Fits.{AllElseFits, ErrAlike}
use Rattle.th_reliability.proofs.TieLemmas.{blamed, clamped_whole, one_cost, spread_both, weighed_whole}
use Rattle.th_reliability.proofs.ShiftLemmas.{shifted, shifted_keeps}

-- ---- what the group's part of a map's changes is
abbrev pub own_spread : List Observed → WeightRows → (Observed → Bool) → (List ℕ → ℤ) → ℕ
own_spread observations weights group z = sum_by (λ o. if group o then weight_of weights o.station o.target * unsigned_abs (z o.target -ℤ z o.station) else 0) observations

one_more : (w old new : ℕ) (b c : Bool) → new ≡ old + (if c then 1 else 0) → (if b then w * new else 0) ≡ (if b then w * old else 0) + (if b then (if c then w else 0) else 0)
one_more w old new true true same = let scaled = ap (λ n. w * n) same in omega arith
one_more w old new true false same = let scaled = ap (λ n. w * n) same in omega arith
one_more w old new false c same = omega arith

pub own_more : (observations : List Observed) (weights : WeightRows) (group : Observed → Bool) (size : ℕ) (u : List ℕ → ℤ) → own_spread observations weights group (cut_off (suc size) u) ≡ own_spread observations weights group (cut_off size u) + own_cut observations weights group (layer size u)
own_more observations weights group size u =
    let w = λ (o : Observed). weight_of weights o.station o.target in
    let change = λ (k : ℕ) (o : Observed). unsigned_abs (cut_off k u o.target -ℤ cut_off k u o.station) in
    let each = fun_ext (λ (o : Observed). one_more (w o) (change size o) (change (suc size) o) (group o) (crosses (layer size u) o) (layer_along size (u o.station) (u o.target))) in
    ap (λ f. sum_by f observations) each ∙ sums-plus (λ o. if group o then w o * change size o else 0) (λ o. if group o then (if crosses (layer size u) o then w o else 0) else 0) observations

one_none : (w e : ℕ) (b : Bool) → e ≤ 0 → (if b then w * e else 0) ≤ 0
one_none w e true none = let scaled = mul-le-mul_left w none in omega arith
one_none w e false none = omega arith

pub own_none : (observations : List Observed) (weights : WeightRows) (group : Observed → Bool) (u : List ℕ → ℤ) → own_spread observations weights group (cut_off 0 u) ≤ 0
own_none observations weights group u =
    let none = sum_by-le (λ (o : Observed). if group o then weight_of weights o.station o.target * unsigned_abs (cut_off 0 u o.target -ℤ cut_off 0 u o.station) else 0) 0 observations (λ k d within. one_none (weight_of weights (slice_index_or observations k d).station (slice_index_or observations k d).target) (unsigned_abs (cut_off 0 u (slice_index_or observations k d).target -ℤ cut_off 0 u (slice_index_or observations k d).station)) (group (slice_index_or observations k d)) (clamped_low 0 (u (slice_index_or observations k d).station) (u (slice_index_or observations k d).target))) in
    omega arith

own_most : (observations : List Observed) (weights : WeightRows) (group : Observed → Bool) (u : List ℕ → ℤ) → ((below : ℕ) → 2 * own_cut observations weights group (layer below u) ≤ cut observations weights (layer below u)) → (size : ℕ) → 2 * own_spread observations weights group (cut_off size u) ≤ spread observations weights (cut_off size u)
own_most observations weights group u strong zero =
    let none = own_none observations weights group u in
    omega arith
own_most observations weights group u strong (suc size) =
    let rest = own_most observations weights group u strong size in
    let more = spread_more observations weights size u in
    let own = own_more observations weights group size u in
    let step = strong size in
    omega arith

-- ---- a set that no observation crosses has no cut
one_crosses : (w : ℕ) (b c : Bool) → c ≡ false → (if b then (if c then w else 0) else 0) ≡ 0
one_crosses w true true e = absurd (grind arith)
one_crosses w true false e = refl
one_crosses w false c e = refl

pub crossed : (observations : List Observed) (weights : WeightRows) (group : Observed → Bool) (inside : List ℕ → Bool) (names : List (List ℕ)) → All (λ o. Contains names o.station × Contains names o.target) observations → ((point : List ℕ) × Contains names point × (inside point ≡ true)) ⊎ (own_cut observations weights group inside ≤ 0)
crossed observations weights group inside names listed = go observations (recursion_from_All (λ o. Contains names o.station × Contains names o.target) observations listed)
  where
    go : (xs : List Observed) → AllByRecursion (λ o. Contains names o.station × Contains names o.target) xs → ((point : List ℕ) × Contains names point × (inside point ≡ true)) ⊎ (own_cut xs weights group inside ≤ 0)
    go [] has = inr (omega arith)
    go (o ∷ xs) has = by (inside o.station) (inside o.target) refl refl (go xs has.1)
      where
        by : (s t : Bool) → inside o.station ≡ s → inside o.target ≡ t → ((point : List ℕ) × Contains names point × (inside point ≡ true)) ⊎ (own_cut xs weights group inside ≤ 0) → ((point : List ℕ) × Contains names point × (inside point ≡ true)) ⊎ (own_cut (o ∷ xs) weights group inside ≤ 0)
        by true t e f rest = inl (o.station, has.0.0, e)
        by false true e f rest = inl (o.target, has.0.1, f)
        by false false e f (inl found) = inl found
        by false false e f (inr none) =
            let all = sum_by-cons (λ x. if group x then (if crosses inside x then weight_of weights x.station x.target else 0) else 0) o xs in
            let level : crosses inside o ≡ false = ap (λ b. differ b (inside o.target)) e ∙ f in
            let one = one_crosses (weight_of weights o.station o.target) (group o) (crosses inside o) level in
            inr (omega arith)

-- ---- heights that all others fit
one_whole : (w a b c : ℕ) (own : Bool) → c ≤ (a + b) → (if own then w * c else 0) ≤ ((if own then w * a else 0) + (if own then w * b else 0))
one_whole w a b c true less = weighed_whole w a b c less
one_whole w a b c false less = omega arith

one_least : (w : ℕ) (own : Bool) (d hs ht gs gt : ℤ) → (own ≡ false → d -ℤ (gt -ℤ gs) ≡ pos 0) → (w * unsigned_abs (d -ℤ (gt -ℤ gs)) + w * unsigned_abs ((ht -ℤ gt) -ℤ (hs -ℤ gs))) ≤ (w * unsigned_abs (d -ℤ (ht -ℤ hs)) + ((if own then w * unsigned_abs ((ht -ℤ gt) -ℤ (hs -ℤ gs)) else 0) + (if own then w * unsigned_abs ((ht -ℤ gt) -ℤ (hs -ℤ gs)) else 0)))
one_least w true d hs ht gs gt fits =
    let less = weighed_whole w (unsigned_abs ((ht -ℤ gt) -ℤ (hs -ℤ gs))) (unsigned_abs (d -ℤ (ht -ℤ hs))) (unsigned_abs (d -ℤ (gt -ℤ gs))) (omega (arith, ints)) in
    omega arith
one_least w false d hs ht gs gt fits =
    let zero = fits refl in
    let none : unsigned_abs (d -ℤ (gt -ℤ gs)) ≤ 0 = omega (arith, ints) in
    let scaled = mul-le-mul_left w none in
    let less = one_cost w d hs ht gs gt zero in
    omega arith

pub stays_least : (survey : Survey) (truth : List ℕ → ℤ) (group : Observed → Bool) → ((inside : List ℕ → Bool) → IsFreeWithPoint survey inside → own survey group inside ≤ rest survey group inside) → AllElseFits survey group truth → Least survey.observations survey.benchmarks survey.weights truth
stays_least survey truth group light all = record { kept = all.kept; least = at_least }
  where
    w : Observed → ℕ
    w x = weight_of survey.weights x.station x.target

    strong : (inside : List ℕ → Bool) → IsFreeSet survey.benchmarks inside → 2 * own_cut survey.observations survey.weights group inside ≤ cut survey.observations survey.weights inside
    strong inside free = by (crossed survey.observations survey.weights group inside (points_of survey) (ends_contained survey.observations survey.benchmarks))
      where
        by : ((point : List ℕ) × Contains (points_of survey) point × (inside point ≡ true)) ⊎ (own_cut survey.observations survey.weights group inside ≤ 0) → 2 * own_cut survey.observations survey.weights group inside ≤ cut survey.observations survey.weights inside
        by (inl point) =
            let less = light inside (record { free = free; point = point }) in
            let both = parts survey.observations survey.weights group inside in
            omega arith
        by (inr none) = omega arith

    at_least : (heights : List ℕ → ℤ) → IsHeights survey.benchmarks heights → cost survey.observations survey.weights truth ≤ cost survey.observations survey.weights heights
    at_least heights heights_kept =
        let above = own_most survey.observations survey.weights group u (λ below. strong (layer below u) (layer_free survey.benchmarks true below heights truth heights_kept all.kept)) size in
        let under = own_most survey.observations survey.weights group u' (λ below. strong (layer below u') (layer_free survey.benchmarks false below heights truth heights_kept all.kept)) size in
        let both = spread_both survey.observations survey.weights heights truth size in
        let whole = sums-le-all (λ x. if group x then w x * change u x else 0) (λ x. (if group x then w x * change (cut_off size u) x else 0) + (if group x then w x * change (cut_off size u') x else 0)) survey.observations (recursion_from_All (λ x. (if group x then w x * change u x else 0) ≤ ((if group x then w x * change (cut_off size u) x else 0) + (if group x then w x * change (cut_off size u') x else 0))) survey.observations (λ k d within. wholly (slice_index_or survey.observations k d) (get_or-le-sum_by sizes survey.observations k d within))) in
        let halves = sums-plus (λ x. if group x then w x * change (cut_off size u) x else 0) (λ x. if group x then w x * change (cut_off size u') x else 0) survey.observations in
        let less = sums-le-all (λ x. w x * unsigned_abs (residual x truth) + w x * change u x) (λ x. w x * unsigned_abs (residual x heights) + ((if group x then w x * change u x else 0) + (if group x then w x * change u x else 0))) survey.observations (recursion_from_All (λ x. (w x * unsigned_abs (residual x truth) + w x * change u x) ≤ (w x * unsigned_abs (residual x heights) + ((if group x then w x * change u x else 0) + (if group x then w x * change u x else 0)))) survey.observations (λ k d within. costs (slice_index_or survey.observations k d) (all.fit k d within))) in
        let left = sums-plus (λ x. w x * unsigned_abs (residual x truth)) (λ x. w x * change u x) survey.observations in
        let right = sums-plus (λ x. w x * unsigned_abs (residual x heights)) (λ x. (if group x then w x * change u x else 0) + (if group x then w x * change u x else 0)) survey.observations in
        let twice = sums-plus (λ x. if group x then w x * change u x else 0) (λ x. if group x then w x * change u x else 0) survey.observations in
        omega arith
      where
        u : List ℕ → ℤ
        u = off true heights truth

        u' : List ℕ → ℤ
        u' = off false heights truth

        change : (List ℕ → ℤ) → Observed → ℕ
        change z x = unsigned_abs (z x.target -ℤ z x.station)

        sizes : Observed → ℕ
        sizes x = unsigned_abs (u x.station) + unsigned_abs (u x.target)

        size : ℕ
        size = sum_by sizes survey.observations

        wholly : (x : Observed) → sizes x ≤ size → (if group x then w x * change u x else 0) ≤ ((if group x then w x * change (cut_off size u) x else 0) + (if group x then w x * change (cut_off size u') x else 0))
        wholly x low = one_whole (w x) (change (cut_off size u) x) (change (cut_off size u') x) (change u x) (group x) (clamped_whole size (u x.station) (u x.target) (u' x.station) (u' x.target) refl refl (omega arith) (omega arith))

        costs : (x : Observed) → (group x ≡ false → residual x truth ≡ pos 0) → (w x * unsigned_abs (residual x truth) + w x * change u x) ≤ (w x * unsigned_abs (residual x heights) + ((if group x then w x * change u x else 0) + (if group x then w x * change u x else 0)))
        costs x fits = one_least (w x) (group x) x.difference (heights x.station) (heights x.target) (truth x.station) (truth x.target) fits

-- ---- heights that those of the group fit that cross the reached set's border
-- how far the set has to go: whether it holds the station, and the error
abbrev whole_way : Bool → ℤ → ℤ
whole_way true error = pos 0 -ℤ error
whole_way false error = error

way_size : (b : Bool) (error : ℤ) → unsigned_abs (whole_way b error) ≡ unsigned_abs error
way_size true error = omega (arith, ints)
way_size false error = refl

one_level : (w a b : ℕ) → a ≤ b → w * a ≤ w * b
one_level w a b less = mul-le-mul_left w less

own_moved : (w : ℕ) (s t from : Bool) (d gs gt e : ℤ) → s ≡ from → d -ℤ (gt -ℤ gs) ≡ e → (w * unsigned_abs (d -ℤ ((gt +ℤ (if t then whole_way from e else pos 0)) -ℤ (gs +ℤ (if s then whole_way from e else pos 0)))) + unsigned_abs e * (if differ s t then w else 0)) ≤ w * unsigned_abs (d -ℤ (gt -ℤ gs))
own_moved w true true from d gs gt e at err = let less = one_level w (unsigned_abs (d -ℤ ((gt +ℤ whole_way from e) -ℤ (gs +ℤ whole_way from e)))) (unsigned_abs (d -ℤ (gt -ℤ gs))) (omega (arith, ints)) in omega arith
own_moved w false false from d gs gt e at err = let less = one_level w (unsigned_abs (d -ℤ ((gt +ℤ pos 0) -ℤ (gs +ℤ pos 0)))) (unsigned_abs (d -ℤ (gt -ℤ gs))) (omega (arith, ints)) in omega arith
own_moved w true false false d gs gt e at err = absurd (grind arith)
own_moved w false true true d gs gt e at err = absurd (grind arith)
own_moved w true false true d gs gt e at err =
    let none = one_level w (unsigned_abs (d -ℤ ((gt +ℤ pos 0) -ℤ (gs +ℤ (pos 0 -ℤ e))))) 0 (omega (arith, ints)) in
    let same = ap (λ z. w * unsigned_abs z) err in
    omega arith
own_moved w false true false d gs gt e at err =
    let none = one_level w (unsigned_abs (d -ℤ ((gt +ℤ e) -ℤ (gs +ℤ pos 0)))) 0 (omega (arith, ints)) in
    let same = ap (λ z. w * unsigned_abs z) err in
    omega arith

other_moved : (w size : ℕ) (s t : Bool) (more d gs gt : ℤ) → unsigned_abs more ≡ size → d -ℤ (gt -ℤ gs) ≡ pos 0 → w * unsigned_abs (d -ℤ ((gt +ℤ (if t then more else pos 0)) -ℤ (gs +ℤ (if s then more else pos 0)))) ≤ size * (if differ s t then w else 0)
other_moved w size s t more d gs gt same fits =
    let less = blamed w s t more d gs gt fits in
    let scaled = ap (λ n. n * (if differ s t then w else 0)) same in
    omega arith

one_moved : (w : ℕ) (own s t from : Bool) (d gs gt e : ℤ) → (own ≡ true → s ≡ from) → (own ≡ true → d -ℤ (gt -ℤ gs) ≡ e) → (own ≡ false → d -ℤ (gt -ℤ gs) ≡ pos 0) → (w * unsigned_abs (d -ℤ ((gt +ℤ (if t then whole_way from e else pos 0)) -ℤ (gs +ℤ (if s then whole_way from e else pos 0)))) + unsigned_abs e * (if own then (if differ s t then w else 0) else 0)) ≤ (w * unsigned_abs (d -ℤ (gt -ℤ gs)) + unsigned_abs e * (if own then 0 else (if differ s t then w else 0)))
one_moved w true s t from d gs gt e at err fits = let less = own_moved w s t from d gs gt e (at refl) (err refl) in omega arith
one_moved w false s t from d gs gt e at err fits = let less = other_moved w (unsigned_abs e) s t (whole_way from e) d gs gt (way_size from e) (fits refl) in omega arith

pub moves_too : (survey : Survey) (truth : List ℕ → ℤ) (group : Observed → Bool) (station : List ℕ) (error : ℤ) → IsSharedMistake survey group Ties → ErrAlike survey group station error truth → AllElseFits survey group truth → (others : List ℕ → ℤ) × Least survey.observations survey.benchmarks survey.weights others × Any (λ point. unsigned_abs (others point -ℤ truth point) ≡ unsigned_abs error) (points_of survey)
moves_too survey truth group station error word alike all = (
  others,
  record {
    kept = shifted_keeps survey.benchmarks inside more truth word.1.1.free all.kept;
    least = λ heights heights_kept.
        let least = (stays_least survey truth group word.0 all).least heights heights_kept in
        let less = no_more in
        omega arith;
  },
  (word.1.1.point.1.0, word.1.1.point.0, word.1.1.point.1.1, word.1.1.point.1.2, moved),
)
  where
    inside : List ℕ → Bool
    inside = word.1.0

    more : ℤ
    more = whole_way (inside station) error

    others : List ℕ → ℤ
    others = shifted inside more truth

    w : Observed → ℕ
    w x = weight_of survey.weights x.station x.target

    moved : unsigned_abs (others word.1.1.point.0 -ℤ truth word.1.1.point.0) ≡ unsigned_abs error
    moved =
        let by_more = ap (λ b. unsigned_abs ((truth word.1.1.point.0 +ℤ (if b then more else pos 0)) -ℤ truth word.1.1.point.0)) word.1.1.point.2 in
        let back : unsigned_abs ((truth word.1.1.point.0 +ℤ more) -ℤ truth word.1.1.point.0) ≡ unsigned_abs more = omega (arith, ints) in
        by_more ∙ back ∙ way_size (inside station) error

    each : (x : Observed) → (group x ≡ true → x.station ≡ station) → (group x ≡ true → residual x truth ≡ error) → (group x ≡ false → residual x truth ≡ pos 0) → (w x * unsigned_abs (residual x others) + unsigned_abs error * (if group x then (if crosses inside x then w x else 0) else 0)) ≤ (w x * unsigned_abs (residual x truth) + unsigned_abs error * (if group x then 0 else (if crosses inside x then w x else 0)))
    each x at e fits = one_moved (w x) (group x) (inside x.station) (inside x.target) (inside station) x.difference (truth x.station) (truth x.target) error (λ own. ap inside (at own)) e fits

    no_more : cost survey.observations survey.weights others ≤ cost survey.observations survey.weights truth
    no_more =
        let size = unsigned_abs error in
        let own = λ (o : Observed). if group o then (if crosses inside o then w o else 0) else 0 in
        let rest = λ (o : Observed). if group o then 0 else (if crosses inside o then w o else 0) in
        let less = sums-le-all (λ o. w o * unsigned_abs (residual o others) + size * own o) (λ o. w o * unsigned_abs (residual o truth) + size * rest o) survey.observations (recursion_from_All (λ o. (w o * unsigned_abs (residual o others) + size * own o) ≤ (w o * unsigned_abs (residual o truth) + size * rest o)) survey.observations (λ k d within. each (slice_index_or survey.observations k d) (alike.from k d within) (alike.err k d within) (all.fit k d within))) in
        let left = sums-plus (λ o. w o * unsigned_abs (residual o others)) (λ o. size * own o) survey.observations in
        let right = sums-plus (λ o. w o * unsigned_abs (residual o truth)) (λ o. size * rest o) survey.observations in
        let left_times = sums-times size own survey.observations in
        let right_times = sums-times size rest survey.observations in
        let even = word.1.2 in
        let scaled = ap (λ n. size * n) even in
        omega arith
