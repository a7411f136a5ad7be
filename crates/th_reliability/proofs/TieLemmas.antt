-- An observation that weighs no more than the others that check it: heights that all others fit are least. Where it weighs just as much, so are others that it fits.
use Rattle.std.proofs.Common.{◌≡◌, ℕ, zero, suc, Bool, true, false, ◌+◌, ◌*◌, ◌≤◌, ℤ, pos, negsuc, ◌+ℤ◌, ◌-ℤ◌, List, ◌∷◌, ◌++◌, All, if◌then◌else◌, sum_by, unsigned_abs, refl, ap, mul-le-mul_left, arith}
use Rattle.std.specs.Prelude.{slice_index_or}
use Rattle.std.proofs.lemmas.Int.{ints}
use Rattle.std.proofs.lemmas.List.Sums.{sum_by-append, sum_by-cons, sum_by-le}
use Rattle.std.proofs.lemmas.List.Elements.{recursion_from_All}
use Rattle.th_observations.specs.Observed.{Observed}
use Rattle.th_tables.specs.Rows.{BenchmarkRows, WeightRows, weight_of}
use Rattle.th_network.specs.Heights.{IsHeights, Least, cost, residual}
use Rattle.th_reliability.specs.Cuts.{IsControl, crosses, cut, differ}
use Rattle.th_reliability.proofs.SumLemmas.{sums-le, sums-le-all, sums-plus, sums-times}
use Rattle.th_reliability.proofs.ShiftLemmas.{shifted, shifted_keeps}
use Rattle.th_reliability.proofs.LayerLemmas.{clamped, clamped_low, cut_off, layer, layer_along, spread, spread_more}
use Rattle.th_reliability.proofs.LoweringLemmas.{layer_free, off}

-- ---- a sum over the observations is the one's part and the others'
split : (f : Observed → ℕ) (before after : List Observed) (o : Observed) → sum_by f (before ++ o ∷ after) ≡ f o + sum_by f (before ++ after)
split f before after o =
    let all = sum_by-append f before (o ∷ after) in
    let first = sum_by-cons f o after in
    let others = sum_by-append f before after in
    omega arith

-- ---- a map changes along the one at most as much as along the others
one_step : (w old new c : ℕ) (b : Bool) → new ≡ old + (if b then 1 else 0) → (b ≡ true → 2 * w ≤ c) → 2 * (w * new) ≤ (2 * (w * old) + c)
one_step w old new c true same strong =
    let scaled = ap (λ n. w * n) same in
    let most = strong refl in
    omega arith
one_step w old new c false same strong = let scaled = ap (λ n. w * n) same in omega arith

own_most : (observations : List Observed) (weights : WeightRows) (o : Observed) (u : List ℕ → ℤ) → ((below : ℕ) → crosses (layer below u) o ≡ true → 2 * weight_of weights o.station o.target ≤ cut observations weights (layer below u)) → (size : ℕ) → 2 * (weight_of weights o.station o.target * unsigned_abs (cut_off size u o.target -ℤ cut_off size u o.station)) ≤ spread observations weights (cut_off size u)
own_most observations weights o u strong zero =
    let scaled = mul-le-mul_left (weight_of weights o.station o.target) (clamped_low 0 (u o.station) (u o.target)) in
    omega arith
own_most observations weights o u strong (suc size) =
    let rest = own_most observations weights o u strong size in
    let more = spread_more observations weights size u in
    let step = one_step (weight_of weights o.station o.target) (unsigned_abs (cut_off size u o.target -ℤ cut_off size u o.station)) (unsigned_abs (cut_off (suc size) u o.target -ℤ cut_off (suc size) u o.station)) (cut observations weights (layer size u)) (crosses (layer size u) o) (layer_along size (u o.station) (u o.target)) (strong size) in
    omega arith

-- what is above and what is below
clamped_both : (size : ℕ) (x y x' y' : ℤ) → x' ≡ pos 0 -ℤ x → y' ≡ pos 0 -ℤ y → (unsigned_abs (clamped size y -ℤ clamped size x) + unsigned_abs (clamped size y' -ℤ clamped size x')) ≤ unsigned_abs (y -ℤ x)
clamped_both size (pos a) (pos b) (pos c) (pos d) e f = omega (arith, ints)
clamped_both size (pos a) (pos b) (pos c) (negsuc d) e f = omega (arith, ints)
clamped_both size (pos a) (pos b) (negsuc c) (pos d) e f = omega (arith, ints)
clamped_both size (pos a) (pos b) (negsuc c) (negsuc d) e f = omega (arith, ints)
clamped_both size (pos a) (negsuc b) (pos c) (pos d) e f = omega (arith, ints)
clamped_both size (pos a) (negsuc b) (pos c) (negsuc d) e f = absurd (omega (arith, ints))
clamped_both size (pos a) (negsuc b) (negsuc c) (pos d) e f = omega (arith, ints)
clamped_both size (pos a) (negsuc b) (negsuc c) (negsuc d) e f = absurd (omega (arith, ints))
clamped_both size (negsuc a) (pos b) (pos c) (pos d) e f = omega (arith, ints)
clamped_both size (negsuc a) (pos b) (pos c) (negsuc d) e f = omega (arith, ints)
clamped_both size (negsuc a) (pos b) (negsuc c) y' e f = absurd (omega (arith, ints))
clamped_both size (negsuc a) (negsuc b) (pos c) (pos d) e f = omega (arith, ints)
clamped_both size (negsuc a) (negsuc b) (pos c) (negsuc d) e f = absurd (omega (arith, ints))
clamped_both size (negsuc a) (negsuc b) (negsuc c) y' e f = absurd (omega (arith, ints))

-- nothing is lost where the size is large enough
pub clamped_whole : (size : ℕ) (x y x' y' : ℤ) → x' ≡ pos 0 -ℤ x → y' ≡ pos 0 -ℤ y → unsigned_abs x ≤ size → unsigned_abs y ≤ size → unsigned_abs (y -ℤ x) ≤ (unsigned_abs (clamped size y -ℤ clamped size x) + unsigned_abs (clamped size y' -ℤ clamped size x'))
clamped_whole size (pos a) (pos b) (pos c) (pos d) e f low high = omega (arith, ints)
clamped_whole size (pos a) (pos b) (pos c) (negsuc d) e f low high = omega (arith, ints)
clamped_whole size (pos a) (pos b) (negsuc c) (pos d) e f low high = omega (arith, ints)
clamped_whole size (pos a) (pos b) (negsuc c) (negsuc d) e f low high = omega (arith, ints)
clamped_whole size (pos a) (negsuc b) (pos c) (pos d) e f low high = omega (arith, ints)
clamped_whole size (pos a) (negsuc b) (pos c) (negsuc d) e f low high = absurd (omega (arith, ints))
clamped_whole size (pos a) (negsuc b) (negsuc c) (pos d) e f low high = omega (arith, ints)
clamped_whole size (pos a) (negsuc b) (negsuc c) (negsuc d) e f low high = absurd (omega (arith, ints))
clamped_whole size (negsuc a) (pos b) (pos c) (pos d) e f low high = omega (arith, ints)
clamped_whole size (negsuc a) (pos b) (pos c) (negsuc d) e f low high = omega (arith, ints)
clamped_whole size (negsuc a) (pos b) (negsuc c) y' e f low high = absurd (omega (arith, ints))
clamped_whole size (negsuc a) (negsuc b) (pos c) (pos d) e f low high = omega (arith, ints)
clamped_whole size (negsuc a) (negsuc b) (pos c) (negsuc d) e f low high = absurd (omega (arith, ints))
clamped_whole size (negsuc a) (negsuc b) (negsuc c) y' e f low high = absurd (omega (arith, ints))

weighed_both : (w a b c : ℕ) → (a + b) ≤ c → (w * a + w * b) ≤ w * c
weighed_both w a b c less = let scaled = mul-le-mul_left w less in omega arith

pub weighed_whole : (w a b c : ℕ) → c ≤ (a + b) → w * c ≤ (w * a + w * b)
weighed_whole w a b c less = let scaled = mul-le-mul_left w less in omega arith

pub spread_both : (observations : List Observed) (weights : WeightRows) (heights truth : List ℕ → ℤ) (size : ℕ) → (spread observations weights (cut_off size (off true heights truth)) + spread observations weights (cut_off size (off false heights truth))) ≤ spread observations weights (off true heights truth)
spread_both observations weights heights truth size =
    let w = λ (o : Observed). weight_of weights o.station o.target in
    let u = off true heights truth in
    let a = λ (o : Observed). unsigned_abs (cut_off size u o.target -ℤ cut_off size u o.station) in
    let b = λ (o : Observed). unsigned_abs (cut_off size (off false heights truth) o.target -ℤ cut_off size (off false heights truth) o.station) in
    let less = sums-le (λ o. w o * a o + w o * b o) (λ o. w o * unsigned_abs (u o.target -ℤ u o.station)) (λ o. weighed_both (w o) (a o) (b o) (unsigned_abs (u o.target -ℤ u o.station)) (clamped_both size (u o.station) (u o.target) (pos 0 -ℤ u o.station) (pos 0 -ℤ u o.target) refl refl)) observations in
    let sum = sums-plus (λ o. w o * a o) (λ o. w o * b o) observations in
    omega arith

-- ---- heights that all others fit
pub no_cost : (w : ℕ) (r : ℤ) → r ≡ pos 0 → w * unsigned_abs r ≤ 0
no_cost w r fits =
    let none : unsigned_abs r ≤ 0 = omega (arith, ints) in
    let scaled = mul-le-mul_left w none in
    omega arith

pub one_cost : (w : ℕ) (d hs ht gs gt : ℤ) → d -ℤ (gt -ℤ gs) ≡ pos 0 → w * unsigned_abs ((ht -ℤ gt) -ℤ (hs -ℤ gs)) ≤ w * unsigned_abs (d -ℤ (ht -ℤ hs))
one_cost w d hs ht gs gt fits =
    let same : unsigned_abs ((ht -ℤ gt) -ℤ (hs -ℤ gs)) ≤ unsigned_abs (d -ℤ (ht -ℤ hs)) = omega (arith, ints) in
    mul-le-mul_left w same

own_cost : (w : ℕ) (d hs ht gs gt : ℤ) → w * unsigned_abs (d -ℤ (gt -ℤ gs)) ≤ (w * unsigned_abs ((ht -ℤ gt) -ℤ (hs -ℤ gs)) + w * unsigned_abs (d -ℤ (ht -ℤ hs)))
own_cost w d hs ht gs gt = weighed_whole w (unsigned_abs ((ht -ℤ gt) -ℤ (hs -ℤ gs))) (unsigned_abs (d -ℤ (ht -ℤ hs))) (unsigned_abs (d -ℤ (gt -ℤ gs))) (omega (arith, ints))

pub stays_least : (before after : List Observed) (benchmarks : BenchmarkRows) (weights : WeightRows) (truth : List ℕ → ℤ) (o : Observed) (control : ℕ) → IsControl (before ++ o ∷ after) benchmarks weights o control → weight_of weights o.station o.target ≤ control → IsHeights benchmarks truth → All (λ other. residual other truth ≡ pos 0) (before ++ after) → Least (before ++ o ∷ after) benchmarks weights truth
stays_least before after benchmarks weights truth o control is_control light kept fit = record {
  kept = kept;
  least = at_least;
}
  where
    observations : List Observed
    observations = before ++ o ∷ after

    w : Observed → ℕ
    w x = weight_of weights x.station x.target

    at_least : (heights : List ℕ → ℤ) → IsHeights benchmarks heights → cost observations weights truth ≤ cost observations weights heights
    at_least heights heights_kept =
        let u = off true heights truth in
        let u' = off false heights truth in
        let size = unsigned_abs (u o.station) + unsigned_abs (u o.target) in
        let strong = λ (up : Bool) (below : ℕ) (crossing : crosses (layer below (off up heights truth)) o ≡ true). doubled (cut observations weights (layer below (off up heights truth))) (is_control.least (layer below (off up heights truth)) (layer_free benchmarks up below heights truth heights_kept kept) crossing) in
        let above = own_most observations weights o u (strong true) size in
        let under = own_most observations weights o u' (strong false) size in
        let both = spread_both observations weights heights truth size in
        let whole = weighed_whole (w o) (unsigned_abs (cut_off size u o.target -ℤ cut_off size u o.station)) (unsigned_abs (cut_off size u' o.target -ℤ cut_off size u' o.station)) (unsigned_abs (u o.target -ℤ u o.station)) (clamped_whole size (u o.station) (u o.target) (u' o.station) (u' o.target) refl refl (omega arith) (omega arith)) in
        let parts = split (λ x. w x * unsigned_abs (u x.target -ℤ u x.station)) before after o in
        let here = split (λ x. w x * unsigned_abs (residual x truth)) before after o in
        let there = split (λ x. w x * unsigned_abs (residual x heights)) before after o in
        let none = sum_by-le (λ (x : Observed). w x * unsigned_abs (residual x truth)) 0 (before ++ after) (λ k d within. no_cost _ _ (fit k d within)) in
        let others = sums-le-all (λ x. w x * unsigned_abs (u x.target -ℤ u x.station)) (λ x. w x * unsigned_abs (residual x heights)) (before ++ after) (recursion_from_All (λ x. w x * unsigned_abs (u x.target -ℤ u x.station) ≤ w x * unsigned_abs (residual x heights)) (before ++ after) (λ k d within. fitted heights (slice_index_or (before ++ after) k d) (fit k d within))) in
        let own = own_cost (w o) o.difference (heights o.station) (heights o.target) (truth o.station) (truth o.target) in
        omega arith
      where
        doubled : (c : ℕ) → (control + weight_of weights o.station o.target) ≤ c → 2 * weight_of weights o.station o.target ≤ c
        doubled c less = omega arith

        fitted : (heights : List ℕ → ℤ) (x : Observed) → residual x truth ≡ pos 0 → w x * unsigned_abs (off true heights truth x.target -ℤ off true heights truth x.station) ≤ w x * unsigned_abs (residual x heights)
        fitted heights x fits = one_cost (w x) x.difference (heights x.station) (heights x.target) (truth x.station) (truth x.target) fits

-- ---- heights that the one fits
-- how far the reached set has to go: whether it holds the target, and the residual
abbrev whole_error : Bool → ℤ → ℤ
whole_error true error = error
whole_error false error = pos 0 -ℤ error

agreeing : (s t : Bool) (d gs gt : ℤ) → differ s t ≡ true → d -ℤ ((gt +ℤ (if t then whole_error t (d -ℤ (gt -ℤ gs)) else pos 0)) -ℤ (gs +ℤ (if s then whole_error t (d -ℤ (gt -ℤ gs)) else pos 0))) ≡ pos 0
agreeing true true d gs gt crossing = absurd (grind arith)
agreeing false false d gs gt crossing = absurd (grind arith)
agreeing true false d gs gt crossing = omega (arith, ints)
agreeing false true d gs gt crossing = omega (arith, ints)

error_size : (b : Bool) (error : ℤ) → unsigned_abs (whole_error b error) ≡ unsigned_abs error
error_size true error = refl
error_size false error = omega (arith, ints)

pub blamed : (w : ℕ) (s t : Bool) (more d gs gt : ℤ) → d -ℤ (gt -ℤ gs) ≡ pos 0 → w * unsigned_abs (d -ℤ ((gt +ℤ (if t then more else pos 0)) -ℤ (gs +ℤ (if s then more else pos 0)))) ≤ unsigned_abs more * (if differ s t then w else 0)
blamed w true true more d gs gt fits = let none = no_cost w (d -ℤ ((gt +ℤ more) -ℤ (gs +ℤ more))) (omega (arith, ints)) in omega arith
blamed w false false more d gs gt fits = let none = no_cost w (d -ℤ ((gt +ℤ pos 0) -ℤ (gs +ℤ pos 0))) (omega (arith, ints)) in omega arith
blamed w true false more d gs gt fits =
    let same : unsigned_abs (d -ℤ ((gt +ℤ pos 0) -ℤ (gs +ℤ more))) ≤ unsigned_abs more = omega (arith, ints) in
    let scaled = mul-le-mul_left w same in
    omega arith
blamed w false true more d gs gt fits =
    let same : unsigned_abs (d -ℤ ((gt +ℤ more) -ℤ (gs +ℤ pos 0))) ≤ unsigned_abs more = omega (arith, ints) in
    let scaled = mul-le-mul_left w same in
    omega arith

pub agrees_too : (before after : List Observed) (benchmarks : BenchmarkRows) (weights : WeightRows) (truth : List ℕ → ℤ) (o : Observed) (control : ℕ) → IsControl (before ++ o ∷ after) benchmarks weights o control → control ≡ weight_of weights o.station o.target → IsHeights benchmarks truth → All (λ other. residual other truth ≡ pos 0) (before ++ after) → (others : List ℕ → ℤ) × Least (before ++ o ∷ after) benchmarks weights others × (residual o others ≡ pos 0)
agrees_too before after benchmarks weights truth o control is_control tie kept fit = (
  others,
  record {
    kept = shifted_keeps benchmarks inside more truth is_control.reached.1 kept;
    least = λ heights heights_kept.
        let least = (stays_least before after benchmarks weights truth o control is_control (omega arith) kept fit).least heights heights_kept in
        let less = no_more in
        omega arith;
  },
  agreed,
)
  where
    inside : List ℕ → Bool
    inside = is_control.reached.0

    more : ℤ
    more = whole_error (inside o.target) (residual o truth)

    others : List ℕ → ℤ
    others = shifted inside more truth

    w : Observed → ℕ
    w x = weight_of weights x.station x.target

    agreed : residual o others ≡ pos 0
    agreed = agreeing (inside o.station) (inside o.target) o.difference (truth o.station) (truth o.target) is_control.reached.2

    blames : (x : Observed) → residual x truth ≡ pos 0 → w x * unsigned_abs (residual x others) ≤ unsigned_abs more * (if crosses inside x then w x else 0)
    blames x fits = blamed (w x) (inside x.station) (inside x.target) more x.difference (truth x.station) (truth x.target) fits

    no_more : cost (before ++ o ∷ after) weights others ≤ cost (before ++ o ∷ after) weights truth
    no_more =
        let c = λ (x : Observed). if crosses inside x then w x else 0 in
        let here = split (λ x. w x * unsigned_abs (residual x truth)) before after o in
        let there = split (λ x. w x * unsigned_abs (residual x others)) before after o in
        let borders = split c before after o in
        let own : c o ≡ w o = ap (λ b. if b then w o else 0) is_control.reached.2 in
        let reached = is_control.reached.3 in
        let rest : sum_by c (before ++ after) ≡ w o = omega arith in
        let none = no_cost (w o) (residual o others) agreed in
        let less = sums-le-all (λ x. w x * unsigned_abs (residual x others)) (λ x. unsigned_abs more * c x) (before ++ after) (recursion_from_All (λ x. w x * unsigned_abs (residual x others) ≤ unsigned_abs more * c x) (before ++ after) (λ k d within. blames (slice_index_or (before ++ after) k d) (fit k d within))) in
        let times = sums-times (unsigned_abs more) c (before ++ after) in
        let scaled = ap (λ n. unsigned_abs more * n) rest in
        let size = ap (λ n. n * w o) (error_size (inside o.target) (residual o truth)) in
        omega arith
