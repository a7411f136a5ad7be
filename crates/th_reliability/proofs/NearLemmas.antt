-- How far least heights are off others, by the control of a group that errs.
use Rattle.std.proofs.Common.{◌≡◌, ℕ, zero, suc, Bool, true, false, ◌+◌, ◌-◌, ◌*◌, ◌<◌, ◌≤◌, ℤ, pos, negsuc, ◌-ℤ◌, List, Contains, if◌then◌else◌, min, unsigned_abs, refl, ap, ◌∙◌, mul-le-mul_left, arith}
use Rattle.std.proofs.Math.Nat.{mul-sub}
use Rattle.std.proofs.lemmas.Int.{ints}
use Rattle.th_observations.specs.Observed.{Observed}
use Rattle.th_tables.specs.Rows.{BenchmarkRows, WeightRows, weight_of}
use Rattle.th_points.specs.Points.{points}
use Rattle.th_network.specs.Heights.{IsHeights, Least, residual}
use Rattle.th_reliability.specs.Costs.{cost_outside}
use Rattle.th_reliability.specs.Blunders.{weight_in}
use Rattle.th_reliability.specs.Cuts.{IsFreeSet, cut}
use Rattle.th_reliability.specs.Groups.{IsGroupControl, own_cut, rest_cut}
use Rattle.th_reliability.proofs.SumLemmas.{sums-le, sums-plus}
use Rattle.th_reliability.proofs.LayerLemmas.{cut_off, is_above, layer, spread, spread_more}
use Rattle.th_reliability.proofs.LoweringLemmas.{allowed, layer_free, off, spread_allowed}
use Rattle.th_reliability.proofs.BoundLemmas.{parts}
use Rattle.th_reliability.proofs.GroupTieLemmas.{own_more, own_none, own_spread}
use Rattle.th_reliability.proofs.WithstandLemmas.{above_least}

-- ---- level by level: where each of the first sets costs so much, all of them cost that many times as much
pub levels : (observations : List Observed) (weights : WeightRows) (group : Observed → Bool) (u : List ℕ → ℤ) (value weight size : ℕ) → ((below : ℕ) → below < size → (value + 2 * own_cut observations weights group (layer below u)) ≤ (weight + cut observations weights (layer below u))) → (size * value + 2 * own_spread observations weights group (cut_off size u)) ≤ (size * weight + spread observations weights (cut_off size u))
levels observations weights group u value weight zero each =
    let none = own_none observations weights group u in
    omega arith
levels observations weights group u value weight (suc size) each =
    let rest = levels observations weights group u value weight size (λ below less. each below (omega arith)) in
    let more = spread_more observations weights size u in
    let own = own_more observations weights group size u in
    let step = each size (omega arith) in
    omega arith

-- ---- what the observations may lose: the group all that it changes, the others no more than their residuals
one_allowed : (w e r : ℕ) (b : Bool) → w * min e r ≤ ((if b then w * e else 0) + (if b then 0 else w * r))
one_allowed w e r true =
    let low : min e r ≤ e = omega arith in
    let scaled = mul-le-mul_left w low in
    omega arith
one_allowed w e r false =
    let low : min e r ≤ r = omega arith in
    let scaled = mul-le-mul_left w low in
    omega arith

allowed_parts : (observations : List Observed) (weights : WeightRows) (group : Observed → Bool) (truth z : List ℕ → ℤ) → allowed observations weights truth z ≤ (own_spread observations weights group z + cost_outside observations weights group truth)
allowed_parts observations weights group truth z =
    let w = λ (o : Observed). weight_of weights o.station o.target in
    let r = λ (o : Observed). unsigned_abs (residual o truth) in
    let change = λ (o : Observed). unsigned_abs (z o.target -ℤ z o.station) in
    let own = λ (o : Observed). if group o then w o * change o else 0 in
    let others = λ (o : Observed). if group o then 0 else w o * r o in
    let less = sums-le (λ o. w o * min (change o) (r o)) (λ o. own o + others o) (λ o. one_allowed (w o) (change o) (r o) (group o)) observations in
    let split = sums-plus own others observations in
    omega arith

-- ---- off to one side
-- each free set that contains the point has at least this value: the group's weight less its own cut plus the others' cut
abbrev pub HasValue : List Observed → BenchmarkRows → WeightRows → (Observed → Bool) → List ℕ → ℕ → Type 0
HasValue observations benchmarks weights group point value = (inside : List ℕ → Bool) → IsFreeSet benchmarks inside → inside point ≡ true → (value + own_cut observations weights group inside) ≤ (rest_cut observations weights group inside + weight_in observations weights group)

off_by : (observations : List Observed) (benchmarks : BenchmarkRows) (weights : WeightRows) (truth heights : List ℕ → ℤ) (group : Observed → Bool) (value : ℕ) (point : List ℕ) → HasValue observations benchmarks weights group point value → IsHeights benchmarks truth → Least observations benchmarks weights heights → (up : Bool) (size : ℕ) → off up heights truth point ≡ pos size → size * value ≤ (size * weight_in observations weights group + 2 * cost_outside observations weights group truth)
off_by observations benchmarks weights truth heights group value point has kept best up size e =
    let u = off up heights truth in
    let each = λ (below : ℕ) (less : below < size).
    let least = has (layer below u) (layer_free benchmarks up below heights truth best.kept kept) (ap (is_above below) e ∙ above_least size below less) in
    let both = parts observations weights group (layer below u) in
    let step : (value + 2 * own_cut observations weights group (layer below u)) ≤ (weight_in observations weights group + cut observations weights (layer below u)) = omega arith in
    step in
    let most = levels observations weights group u value (weight_in observations weights group) size each in
    let less = spread_allowed observations benchmarks weights truth heights up size kept best in
    let few = allowed_parts observations weights group truth (cut_off size u) in
    omega arith

pub near_by_value : (observations : List Observed) (benchmarks : BenchmarkRows) (weights : WeightRows) (truth heights : List ℕ → ℤ) (group : Observed → Bool) (value : ℕ) (point : List ℕ) → HasValue observations benchmarks weights group point value → IsHeights benchmarks truth → Least observations benchmarks weights heights → unsigned_abs (heights point -ℤ truth point) * (value - weight_in observations weights group) ≤ 2 * cost_outside observations weights group truth
near_by_value observations benchmarks weights truth heights group value point has kept best =
    let bound = by (heights point -ℤ truth point) refl in
    let parts = mul-sub (unsigned_abs (heights point -ℤ truth point)) value (weight_in observations weights group) in
    omega arith
  where
    by : (z : ℤ) → heights point -ℤ truth point ≡ z → unsigned_abs z * value ≤ (unsigned_abs z * weight_in observations weights group + 2 * cost_outside observations weights group truth)
    by (pos n) e = off_by observations benchmarks weights truth heights group value point has kept best true n e
    by (negsuc n) e = off_by observations benchmarks weights truth heights group value point has kept best false (suc n) (omega (arith, ints))

pub moves_little : (observations : List Observed) (benchmarks : BenchmarkRows) (weights : WeightRows) (truth heights : List ℕ → ℤ) (group : Observed → Bool) (control : ℕ) (point : List ℕ) → IsGroupControl observations benchmarks weights group control → IsHeights benchmarks truth → Least observations benchmarks weights heights → Contains (points observations benchmarks) point → unsigned_abs (heights point -ℤ truth point) * (control - weight_in observations weights group) ≤ 2 * cost_outside observations weights group truth
moves_little observations benchmarks weights truth heights group control point is_control kept best listed = near_by_value observations benchmarks weights truth heights group control point (λ inside free there. is_control.least inside point free listed there) kept best
