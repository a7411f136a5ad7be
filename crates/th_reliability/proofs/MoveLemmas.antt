-- What moves if a mistake at a point does not show: a set of least value, by the whole mistake.
use Rattle.std.proofs.Common.{◌≡◌, ℕ, suc, Bool, true, false, not, ◌+◌, ◌-◌, ◌*◌, ◌<◌, ◌≤◌, ℤ, pos, negsuc, ◌+ℤ◌, ◌-ℤ◌, List, All, Contains, IsSome, ◌⊎◌, inl, inr, if◌then◌else◌, sum_by, unsigned_abs, refl, ap, sym, ◌∙◌, mul-le-mul_left, arith}
use Rattle.std.specs.Prelude.{slice_index_or}
use Rattle.std.proofs.Math.Path.{fun_ext}
use Rattle.std.proofs.lemmas.Bool.{false≢true}
use Rattle.std.proofs.lemmas.Int.{ints}
use Rattle.std.proofs.lemmas.List.Elements.{recursion_from_All}
use Rattle.th_observations.specs.Observed.{Observed}
use Rattle.th_tables.specs.Rows.{WeightRows, height_of, weight_of}
use Rattle.th_points.proofs.PlaceLemmas.{ends_contained}
use Rattle.th_network.specs.Heights.{IsHeights, Least, cost, residual}
use Rattle.th_network.specs.Networks.{Survey, points_of}
use Rattle.th_reliability.specs.Blunders.{weight_in}
use Rattle.th_reliability.specs.Cuts.{IsFreeSet, crosses, cut, differ}
use Rattle.th_reliability.specs.Groups.{own_cut, rest_cut}
use Rattle.th_reliability.specs.SharedMistakes.{IsLeastSet, own, rest}
use Rattle.th_reliability.specs.Fits.{AllElseFits}
use Rattle.th_reliability.specs.Moves.{ErrsAt, IsMovable, moved, way}
use Rattle.th_reliability.proofs.SumLemmas.{sums-le-all, sums-plus, sums-times}
use Rattle.th_reliability.proofs.LayerLemmas.{IsAlong, clamped, cut_off, is_above, layer, turned, turned_along}
use Rattle.th_reliability.proofs.LoweringLemmas.{none_off}
use Rattle.th_reliability.proofs.ShiftLemmas.{shifted_keeps}
use Rattle.th_reliability.proofs.BoundLemmas.{parts}
use Rattle.th_reliability.proofs.GroupTieLemmas.{crossed}
use Rattle.th_reliability.proofs.ControlLemmas.{own_low}
use Rattle.th_reliability.proofs.NearLemmas.{levels}

-- ---- a bound from below: level by level
one_below : (w size e r : ℕ) (b : Bool) → (b ≡ true → size ≤ (r + e)) → (b ≡ false → e ≤ r) → (size * (if b then w else 0) + w * e) ≤ (w * r + 2 * (if b then w * e else 0))
one_below w size e r true own others = let scaled = mul-le-mul_left w (own refl) in omega arith
one_below w size e r false own others = let scaled = mul-le-mul_left w (others refl) in omega arith

costs_most : (observations : List Observed) (weights : WeightRows) (group : Observed → Bool) (u heights : List ℕ → ℤ) (value size : ℕ) → ((below : ℕ) → below < size → (value + 2 * own_cut observations weights group (layer below u)) ≤ (weight_in observations weights group + cut observations weights (layer below u))) → All (λ o. group o ≡ true → size ≤ (unsigned_abs (residual o heights) + unsigned_abs (cut_off size u o.target -ℤ cut_off size u o.station))) observations → All (λ o. group o ≡ false → unsigned_abs (cut_off size u o.target -ℤ cut_off size u o.station) ≤ unsigned_abs (residual o heights)) observations → size * value ≤ cost observations weights heights
costs_most observations weights group u heights value size each group_kept others_kept =
    let w = λ (o : Observed). weight_of weights o.station o.target in
    let e = λ (o : Observed). unsigned_abs (cut_off size u o.target -ℤ cut_off size u o.station) in
    let r = λ (o : Observed). unsigned_abs (residual o heights) in
    let own_weight = λ (o : Observed). if group o then w o else 0 in
    let own_change = λ (o : Observed). if group o then w o * e o else 0 in
    let less = sums-le-all (λ o. size * own_weight o + w o * e o) (λ o. w o * r o + 2 * own_change o) observations (recursion_from_All (λ o. (size * own_weight o + w o * e o) ≤ (w o * r o + 2 * own_change o)) observations (λ k d within. one_below (w (slice_index_or observations k d)) size (e (slice_index_or observations k d)) (r (slice_index_or observations k d)) (group (slice_index_or observations k d)) (group_kept k d within) (others_kept k d within))) in
    let left = sums-plus (λ o. size * own_weight o) (λ o. w o * e o) observations in
    let left_times = sums-times size own_weight observations in
    let right = sums-plus (λ o. w o * r o) (λ o. 2 * own_change o) observations in
    let right_times = sums-times 2 own_change observations in
    let most = levels observations weights group u value (weight_in observations weights group) size each in
    omega arith

-- ---- a bound from above: the group where it does not cross, and the others where they do
one_above : (w size r : ℕ) (b c : Bool) → (b ≡ true → c ≡ true → r ≤ 0) → (b ≡ true → c ≡ false → r ≤ size) → (b ≡ false → c ≡ true → r ≤ size) → (b ≡ false → c ≡ false → r ≤ 0) → (w * r + size * (if b then (if c then w else 0) else 0)) ≤ (size * (if b then w else 0) + size * (if b then 0 else (if c then w else 0)))
one_above w size r true true own kept blamed none = let scaled = mul-le-mul_left w (own refl refl) in omega arith
one_above w size r true false own kept blamed none = let scaled = mul-le-mul_left w (kept refl refl) in omega arith
one_above w size r false true own kept blamed none = let scaled = mul-le-mul_left w (blamed refl refl) in omega arith
one_above w size r false false own kept blamed none = let scaled = mul-le-mul_left w (none refl refl) in omega arith

-- the residuals are 0 for the group's observations that cross and for the others that do not, and else no more than a size
pub record IsBlamed (group : Observed → Bool) (inside : List ℕ → Bool) (heights : List ℕ → ℤ) (size : ℕ) (o : Observed) : Type 0 where
  pub own : group o ≡ true → crosses inside o ≡ true → unsigned_abs (residual o heights) ≤ 0
  pub kept : group o ≡ true → crosses inside o ≡ false → unsigned_abs (residual o heights) ≤ size
  pub blamed : group o ≡ false → crosses inside o ≡ true → unsigned_abs (residual o heights) ≤ size
  pub none : group o ≡ false → crosses inside o ≡ false → unsigned_abs (residual o heights) ≤ 0

costs_least : (observations : List Observed) (weights : WeightRows) (group : Observed → Bool) (inside : List ℕ → Bool) (heights : List ℕ → ℤ) (size : ℕ) → All (IsBlamed group inside heights size) observations → (cost observations weights heights + size * own_cut observations weights group inside) ≤ (size * weight_in observations weights group + size * rest_cut observations weights group inside)
costs_least observations weights group inside heights size all =
    let w = λ (o : Observed). weight_of weights o.station o.target in
    let r = λ (o : Observed). unsigned_abs (residual o heights) in
    let own = λ (o : Observed). if group o then (if crosses inside o then w o else 0) else 0 in
    let rest = λ (o : Observed). if group o then 0 else (if crosses inside o then w o else 0) in
    let own_weight = λ (o : Observed). if group o then w o else 0 in
    let one = λ (o : Observed) (is : IsBlamed group inside heights size o). one_above (w o) size (r o) (group o) (crosses inside o) is.own is.kept is.blamed is.none in
    let less = sums-le-all (λ o. w o * r o + size * own o) (λ o. size * own_weight o + size * rest o) observations (recursion_from_All (λ o. (w o * r o + size * own o) ≤ (size * own_weight o + size * rest o)) observations (λ k d within. one (slice_index_or observations k d) (all k d within))) in
    let left = sums-plus (λ o. w o * r o) (λ o. size * own o) observations in
    let left_times = sums-times size own observations in
    let right = sums-plus (λ o. size * own_weight o) (λ o. size * rest o) observations in
    let weight_times = sums-times size own_weight observations in
    let rest_times = sums-times size rest observations in
    omega arith

-- ---- the residuals after the move
way_size : (b : Bool) (error : ℤ) → unsigned_abs (way b error) ≡ unsigned_abs error
way_size true error = omega (arith, ints)
way_size false error = refl

from_it : (s t from : Bool) (d gs gt e : ℤ) → s ≡ from → d -ℤ (gt -ℤ gs) ≡ e → differ s t ≡ true → d -ℤ ((gt +ℤ (if t then way from e else pos 0)) -ℤ (gs +ℤ (if s then way from e else pos 0))) ≡ pos 0
from_it true true from d gs gt e at err crossing = absurd (false≢true crossing)
from_it false false from d gs gt e at err crossing = absurd (false≢true crossing)
from_it true false false d gs gt e at err crossing = absurd (false≢true (sym at))
from_it false true true d gs gt e at err crossing = absurd (false≢true at)
from_it true false true d gs gt e at err crossing = omega (arith, ints)
from_it false true false d gs gt e at err crossing = omega (arith, ints)

to_it : (s t from : Bool) (d gs gt e : ℤ) → t ≡ from → d -ℤ (gt -ℤ gs) ≡ pos 0 -ℤ e → differ s t ≡ true → d -ℤ ((gt +ℤ (if t then way from e else pos 0)) -ℤ (gs +ℤ (if s then way from e else pos 0))) ≡ pos 0
to_it true true from d gs gt e at err crossing = absurd (false≢true crossing)
to_it false false from d gs gt e at err crossing = absurd (false≢true crossing)
to_it false true false d gs gt e at err crossing = absurd (false≢true (sym at))
to_it true false true d gs gt e at err crossing = absurd (false≢true at)
to_it false true true d gs gt e at err crossing = omega (arith, ints)
to_it true false false d gs gt e at err crossing = omega (arith, ints)

level : (s t : Bool) (more d gs gt : ℤ) → differ s t ≡ false → d -ℤ ((gt +ℤ (if t then more else pos 0)) -ℤ (gs +ℤ (if s then more else pos 0))) ≡ d -ℤ (gt -ℤ gs)
level true true more d gs gt e = omega (arith, ints)
level false false more d gs gt e = omega (arith, ints)
level true false more d gs gt e = absurd (false≢true (sym e))
level false true more d gs gt e = absurd (false≢true (sym e))

blamed_by : (s t : Bool) (more d gs gt : ℤ) → d -ℤ (gt -ℤ gs) ≡ pos 0 → differ s t ≡ true → unsigned_abs (d -ℤ ((gt +ℤ (if t then more else pos 0)) -ℤ (gs +ℤ (if s then more else pos 0)))) ≡ unsigned_abs more
blamed_by true true more d gs gt fits e = absurd (false≢true e)
blamed_by false false more d gs gt fits e = absurd (false≢true e)
blamed_by true false more d gs gt fits e = omega (arith, ints)
blamed_by false true more d gs gt fits e = omega (arith, ints)

pub own_zero : (truth : List ℕ → ℤ) (inside : List ℕ → Bool) (point : List ℕ) (error : ℤ) (o : Observed) → ErrsAt point error truth o → crosses inside o ≡ true → residual o (moved inside (way (inside point) error) truth) ≡ pos 0
own_zero truth inside point error o (inl (at, err)) = from_it (inside o.station) (inside o.target) (inside point) o.difference (truth o.station) (truth o.target) error (ap inside at) err
own_zero truth inside point error o (inr (at, err)) = to_it (inside o.station) (inside o.target) (inside point) o.difference (truth o.station) (truth o.target) error (ap inside at) err

pub level_same : (truth : List ℕ → ℤ) (inside : List ℕ → Bool) (more : ℤ) (o : Observed) → crosses inside o ≡ false → residual o (moved inside more truth) ≡ residual o truth
level_same truth inside more o = level (inside o.station) (inside o.target) more o.difference (truth o.station) (truth o.target)

pub other_blamed : (truth : List ℕ → ℤ) (inside : List ℕ → Bool) (from : Bool) (error : ℤ) (o : Observed) → residual o truth ≡ pos 0 → crosses inside o ≡ true → unsigned_abs (residual o (moved inside (way from error) truth)) ≡ unsigned_abs error
other_blamed truth inside from error o fits crossing = blamed_by (inside o.station) (inside o.target) (way from error) o.difference (truth o.station) (truth o.target) fits crossing ∙ way_size from error

pub err_size : (truth : List ℕ → ℤ) (point : List ℕ) (error : ℤ) (o : Observed) → ErrsAt point error truth o → unsigned_abs (residual o truth) ≡ unsigned_abs error
err_size truth point error o (inl (at, err)) = ap unsigned_abs err
err_size truth point error o (inr (at, err)) = omega (arith, ints)

is_blamed : (truth : List ℕ → ℤ) (group : Observed → Bool) (inside : List ℕ → Bool) (point : List ℕ) (error : ℤ) (o : Observed) → (group o ≡ true → ErrsAt point error truth o) → (group o ≡ false → residual o truth ≡ pos 0) → IsBlamed group inside (moved inside (way (inside point) error) truth) (unsigned_abs error) o
is_blamed truth group inside point error o errs fits = record {
  own = λ own crossing. let none = own_zero truth inside point error o (errs own) crossing in omega (arith, ints);
  kept = λ own out. let same = level_same truth inside (way (inside point) error) o out in let size = err_size truth point error o (errs own) in let both = ap unsigned_abs same in omega arith;
  blamed = λ other crossing. let same = other_blamed truth inside (inside point) error o (fits other) crossing in omega arith;
  none = λ other out. let same = level_same truth inside (way (inside point) error) o out in let none = fits other in omega (arith, ints);
}

pub moved_cost : (survey : Survey) (truth : List ℕ → ℤ) (group : Observed → Bool) (inside : List ℕ → Bool) (point : List ℕ) (error : ℤ) → All (λ o. group o ≡ true → ErrsAt point error truth o) survey.observations → All (λ o. group o ≡ false → residual o truth ≡ pos 0) survey.observations → (cost survey.observations survey.weights (moved inside (way (inside point) error) truth) + unsigned_abs error * own survey group inside) ≤ (unsigned_abs error * weight_in survey.observations survey.weights group + unsigned_abs error * rest survey group inside)
moved_cost survey truth group inside point error errs fits = costs_least survey.observations survey.weights group inside (moved inside (way (inside point) error) truth) (unsigned_abs error) (λ k d within. is_blamed truth group inside point error (slice_index_or survey.observations k d) (errs k d within) (fits k d within))

-- ---- the levels of other heights, counted from the point
-- how far heights are off at a name, more than at the point
abbrev beyond : Bool → (List ℕ → ℤ) → (List ℕ → ℤ) → List ℕ → List ℕ → ℤ
beyond up heights truth point name = turned up ((heights name -ℤ truth name) -ℤ (heights point -ℤ truth point))

zero_cut : (up : Bool) (size : ℕ) → clamped size (turned up (pos 0)) ≡ pos 0
zero_cut true size = omega (arith, ints)
zero_cut false size = omega (arith, ints)

zero_at : (up : Bool) (size : ℕ) (x a : ℤ) → x ≡ a → clamped size (turned up (x -ℤ a)) ≡ pos 0
zero_at up size x a same = let none : x -ℤ a ≡ pos 0 = omega (arith, ints) in ap (λ z. clamped size (turned up z)) none ∙ zero_cut up size

-- what an observation of the group does not cross it pays
pays_from : (up : Bool) (size : ℕ) (d hs ht gs gt a z c : ℤ) → hs -ℤ gs ≡ a → d -ℤ (gt -ℤ gs) ≡ turned up (pos size) → turned up ((ht -ℤ gt) -ℤ a) ≡ z → c ≡ pos 0 → size ≤ (unsigned_abs (d -ℤ (ht -ℤ hs)) + unsigned_abs (clamped size z -ℤ c))
pays_from true size d hs ht gs gt a (pos n) c at err off none = omega (arith, ints)
pays_from true size d hs ht gs gt a (negsuc n) c at err off none = omega (arith, ints)
pays_from false size d hs ht gs gt a (pos n) c at err off none = omega (arith, ints)
pays_from false size d hs ht gs gt a (negsuc n) c at err off none = omega (arith, ints)

pays_to : (up : Bool) (size : ℕ) (d hs ht gs gt a z c : ℤ) → ht -ℤ gt ≡ a → d -ℤ (gt -ℤ gs) ≡ pos 0 -ℤ turned up (pos size) → turned up ((hs -ℤ gs) -ℤ a) ≡ z → c ≡ pos 0 → size ≤ (unsigned_abs (d -ℤ (ht -ℤ hs)) + unsigned_abs (c -ℤ clamped size z))
pays_to true size d hs ht gs gt a (pos n) c at err off none = omega (arith, ints)
pays_to true size d hs ht gs gt a (negsuc n) c at err off none = omega (arith, ints)
pays_to false size d hs ht gs gt a (pos n) c at err off none = omega (arith, ints)
pays_to false size d hs ht gs gt a (negsuc n) c at err off none = omega (arith, ints)

pays : (heights truth : List ℕ → ℤ) (point : List ℕ) (up : Bool) (size : ℕ) (o : Observed) → ErrsAt point (turned up (pos size)) truth o → size ≤ (unsigned_abs (residual o heights) + unsigned_abs (cut_off size (beyond up heights truth point) o.target -ℤ cut_off size (beyond up heights truth point) o.station))
pays heights truth point up size o (inl (at, err)) =
    let same = ap (λ n. heights n -ℤ truth n) at in
    pays_from up size o.difference (heights o.station) (heights o.target) (truth o.station) (truth o.target) (heights point -ℤ truth point) (beyond up heights truth point o.target) (cut_off size (beyond up heights truth point) o.station) same err refl (zero_at up size (heights o.station -ℤ truth o.station) (heights point -ℤ truth point) same)
pays heights truth point up size o (inr (at, err)) =
    let same = ap (λ n. heights n -ℤ truth n) at in
    pays_to up size o.difference (heights o.station) (heights o.target) (truth o.station) (truth o.target) (heights point -ℤ truth point) (beyond up heights truth point o.station) (cut_off size (beyond up heights truth point) o.target) same err refl (zero_at up size (heights o.target -ℤ truth o.target) (heights point -ℤ truth point) same)

-- another observation pays for all that it crosses
along_size : (e v : ℤ) → IsAlong e v → unsigned_abs e ≤ unsigned_abs v
along_size e (pos n) along = let h = along.0 (omega (arith, ints)) in let a = h.0 in let b = h.1 in omega (arith, ints)
along_size e (negsuc n) along = let h = along.1 (omega (arith, ints)) in let a = h.0 in let b = h.1 in omega (arith, ints)

turned_change : (up : Bool) (d hs ht gs gt a : ℤ) → d -ℤ (gt -ℤ gs) ≡ pos 0 → unsigned_abs (turned up ((ht -ℤ gt) -ℤ a) -ℤ turned up ((hs -ℤ gs) -ℤ a)) ≡ unsigned_abs (d -ℤ (ht -ℤ hs))
turned_change true d hs ht gs gt a fits = omega (arith, ints)
turned_change false d hs ht gs gt a fits = omega (arith, ints)

pays_all : (heights truth : List ℕ → ℤ) (point : List ℕ) (up : Bool) (size : ℕ) (o : Observed) → residual o truth ≡ pos 0 → unsigned_abs (cut_off size (beyond up heights truth point) o.target -ℤ cut_off size (beyond up heights truth point) o.station) ≤ unsigned_abs (residual o heights)
pays_all heights truth point up size o fits =
    let u = beyond up heights truth point in
    let low = along_size (clamped size (u o.target) -ℤ clamped size (u o.station)) (u o.target -ℤ u o.station) (turned_along true size (u o.station) (u o.target)) in
    let same = turned_change up o.difference (heights o.station) (heights o.target) (truth o.station) (truth o.target) (heights point -ℤ truth point) fits in
    omega arith

-- ---- each level costs at least the least value: it is free, or what is not in it is
abbrev other_side : (List ℕ → Bool) → List ℕ → Bool
other_side inside name = not (inside name)

differ_not : (a b : Bool) → differ (not a) (not b) ≡ differ a b
differ_not true true = refl
differ_not true false = refl
differ_not false true = refl
differ_not false false = refl

value_at : (survey : Survey) (group : Observed → Bool) (inside : List ℕ → Bool) (value : ℕ) → IsLeastSet survey group inside → rest survey group inside ≤ own survey group inside → (value + own survey group inside) ≡ (rest survey group inside + weight_in survey.observations survey.weights group) → (other : List ℕ → Bool) → IsFreeSet survey.benchmarks other → (value + 2 * own survey group other) ≤ (weight_in survey.observations survey.weights group + cut survey.observations survey.weights other)
value_at survey group inside value is light has other free = by (crossed survey.observations survey.weights group other (points_of survey) (ends_contained survey.observations survey.benchmarks))
  where
    by : ((point : List ℕ) × Contains (points_of survey) point × (other point ≡ true)) ⊎ (own survey group other ≤ 0) → (value + 2 * own survey group other) ≤ (weight_in survey.observations survey.weights group + cut survey.observations survey.weights other)
    by (inl found) =
        let least = is.least other (record { free = free; point = found }) in
        let both = parts survey.observations survey.weights group other in
        omega arith
    by (inr none) = omega arith

level_value : (survey : Survey) (truth heights : List ℕ → ℤ) (group : Observed → Bool) (inside : List ℕ → Bool) (value : ℕ) (point : List ℕ) (up : Bool) → IsLeastSet survey group inside → rest survey group inside ≤ own survey group inside → (value + own survey group inside) ≡ (rest survey group inside + weight_in survey.observations survey.weights group) → IsHeights survey.benchmarks truth → IsHeights survey.benchmarks heights → (below : ℕ) → (value + 2 * own survey group (layer below (beyond up heights truth point))) ≤ (weight_in survey.observations survey.weights group + cut survey.observations survey.weights (layer below (beyond up heights truth point)))
level_value survey truth heights group inside value point up is light has kept heights_kept below = by (is_above below (turned up (pos 0 -ℤ (heights point -ℤ truth point)))) refl
  where
    set : List ℕ → Bool
    set = layer below (beyond up heights truth point)

    at_benchmark : (name : List ℕ) → IsSome (height_of survey.benchmarks name) → set name ≡ is_above below (turned up (pos 0 -ℤ (heights point -ℤ truth point)))
    at_benchmark name fixed = ap (λ z. is_above below (turned up (z -ℤ (heights point -ℤ truth point)))) (none_off survey.benchmarks heights truth heights_kept kept name fixed)

    w : Observed → ℕ
    w o = weight_of survey.weights o.station o.target

    crosses_both : (o : Observed) → crosses (other_side set) o ≡ crosses set o
    crosses_both o = differ_not (set o.station) (set o.target)

    by : (b : Bool) → is_above below (turned up (pos 0 -ℤ (heights point -ℤ truth point))) ≡ b → (value + 2 * own survey group set) ≤ (weight_in survey.observations survey.weights group + cut survey.observations survey.weights set)
    by false e = value_at survey group inside value is light has set (λ name fixed. at_benchmark name fixed ∙ e)
    by true e =
        let bound = value_at survey group inside value is light has (other_side set) (λ name fixed. ap not (at_benchmark name fixed ∙ e)) in
        let same_own = ap (λ (f : Observed → Bool). sum_by (λ o. if group o then (if f o then w o else 0) else 0) survey.observations) (fun_ext crosses_both) in
        let same_cut = ap (λ (f : Observed → Bool). sum_by (λ o. if f o then w o else 0) survey.observations) (fun_ext crosses_both) in
        omega arith

-- ---- all of it
least_by : (survey : Survey) (truth : List ℕ → ℤ) (group : Observed → Bool) (inside : List ℕ → Bool) (point : List ℕ) (error : ℤ) (up : Bool) (size : ℕ) → error ≡ turned up (pos size) → unsigned_abs error ≡ size → IsLeastSet survey group inside → rest survey group inside ≤ own survey group inside → All (λ o. group o ≡ true → ErrsAt point error truth o) survey.observations → IsHeights survey.benchmarks truth → All (λ o. group o ≡ false → residual o truth ≡ pos 0) survey.observations → (heights : List ℕ → ℤ) → IsHeights survey.benchmarks heights → cost survey.observations survey.weights (moved inside (way (inside point) error) truth) ≤ cost survey.observations survey.weights heights
least_by survey truth group inside point error up size is_error is_size is light errs kept fits heights heights_kept =
    let low = own_low survey.observations survey.weights group inside in
    let has : (value + own survey group inside) ≡ (rest survey group inside + weight_in survey.observations survey.weights group) = omega arith in
    let most = costs_most survey.observations survey.weights group (beyond up heights truth point) heights value size
    (λ below less. level_value survey truth heights group inside value point up is light has kept heights_kept below)
    (λ k d within own. pays heights truth point up size (slice_index_or survey.observations k d) (turn (slice_index_or survey.observations k d) (errs k d within own)))
    (λ k d within other. pays_all heights truth point up size (slice_index_or survey.observations k d) (fits k d within other)) in
    let few = moved_cost survey truth group inside point error errs fits in
    let scaled = ap (λ n. unsigned_abs error * n) has in
    let sized = ap (λ n. n * value) is_size in
    omega arith
  where
    value : ℕ
    value = rest survey group inside + weight_in survey.observations survey.weights group - own survey group inside

    turn : (o : Observed) → ErrsAt point error truth o → ErrsAt point (turned up (pos size)) truth o
    turn o (inl (at, err)) = inl (at, err ∙ is_error)
    turn o (inr (at, err)) = inr (at, err ∙ ap (λ z. pos 0 -ℤ z) is_error)

pub least_moved : (survey : Survey) (truth : List ℕ → ℤ) (group : Observed → Bool) (inside : List ℕ → Bool) (point : List ℕ) (error : ℤ) → IsMovable survey group inside → All (λ o. group o ≡ true → ErrsAt point error truth o) survey.observations → AllElseFits survey group truth → Least survey.observations survey.benchmarks survey.weights (moved inside (way (inside point) error) truth)
least_moved survey truth group inside point error movable errs all = record {
  kept = shifted_keeps survey.benchmarks inside (way (inside point) error) truth movable.is.is.free all.kept;
  least = by error refl;
}
  where
    by : (z : ℤ) → error ≡ z → (heights : List ℕ → ℤ) → IsHeights survey.benchmarks heights → cost survey.observations survey.weights (moved inside (way (inside point) error) truth) ≤ cost survey.observations survey.weights heights
    by (pos n) e = least_by survey truth group inside point error true n e (ap unsigned_abs e) movable.is movable.light errs all.kept all.fit
    by (negsuc n) e = least_by survey truth group inside point error false (suc n) (omega (arith, ints)) (ap unsigned_abs e) movable.is movable.light errs all.kept all.fit

-- ---- the residuals in the moved heights
pub blames : (survey : Survey) (truth : List ℕ → ℤ) (group : Observed → Bool) (inside : List ℕ → Bool) (point : List ℕ) (error : ℤ) → All (λ o. group o ≡ true → ErrsAt point error truth o) survey.observations → All (λ o. group o ≡ false → residual o truth ≡ pos 0) survey.observations → All (λ o. group o ≡ false → crosses inside o ≡ true → unsigned_abs (residual o (moved inside (way (inside point) error) truth)) ≡ unsigned_abs error) survey.observations × All (λ o. group o ≡ true → crosses inside o ≡ true → residual o (moved inside (way (inside point) error) truth) ≡ pos 0) survey.observations × All (λ o. crosses inside o ≡ false → residual o (moved inside (way (inside point) error) truth) ≡ residual o truth) survey.observations
blames survey truth group inside point error errs fits = (
  λ k d within other crossing. other_blamed truth inside (inside point) error (slice_index_or survey.observations k d) (fits k d within other) crossing,
  λ k d within own crossing. own_zero truth inside point error (slice_index_or survey.observations k d) (errs k d within own) crossing,
  λ k d within out. level_same truth inside (way (inside point) error) (slice_index_or survey.observations k d) out,
)
