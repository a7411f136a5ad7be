-- Circulations of a survey as it is read.
use Rattle.std.proofs.Common.{◌≡◌, ℕ, ◌≤◌, ℤ, pos, ◌+ℤ◌, List, [], ◌∷◌, unsigned_abs, refl, ap, arith}
use Rattle.std.proofs.lemmas.Int.{ints}
use Rattle.th_observations.specs.Observed.{Observed}
use Rattle.th_tables.specs.Rows.{WeightRows}
use Rattle.th_network.specs.Networks.{Survey}
use Rattle.th_changes.specs.Flows.{Circulates, value}
use Rattle.th_changes.proofs.Tilts.{bounds_tilted, summed, summed-cons}
use Rattle.th_changes.proofs.Changes.{cost_tilted}
use Rattle.th_names.specs.Readings.{IsLeft, KeepsRead, Reading, read_cost}
use Rattle.th_names.specs.Mended.{KeepsWeights, as_read}
use Rattle.th_names.proofs.ReadingLemmas.{ordinary_cost}

pub summed_none : (observations : List Observed) (flows : List ℤ) → summed (λ o. pos 0) observations flows ≡ pos 0
summed_none [] flows = refl
summed_none (o ∷ observations) [] = refl
summed_none (o ∷ observations) (flow ∷ flows) =
    let a = summed-cons (λ o. pos 0) o observations flow flows in
    let rest = summed_none observations flows in
    omega (arith, ints)

bounds_read : (survey : Survey) (reading : Reading) (weights : WeightRows) (flows : List ℤ) (heights : List ℕ → ℤ) → KeepsWeights survey reading weights → Circulates (as_read survey reading weights) flows → KeepsRead survey reading heights → unsigned_abs (value (as_read survey reading weights) flows) ≤ read_cost survey reading heights
bounds_read survey reading weights flows heights weighed circulation kept =
    let own = as_read survey reading weights in
    let most = bounds_tilted (λ o. pos 0) own.observations own.benchmarks weights flows heights circulation kept in
    let none = summed_none own.observations flows in
    let plain : value own flows +ℤ summed (λ o. pos 0) own.observations flows ≡ value own flows = omega (arith, ints) in
    let size = ap unsigned_abs plain in
    let same = cost_tilted own.observations weights heights in
    let cost = ordinary_cost survey reading weights heights weighed in
    omega arith

pub left_bounded : (survey : Survey) (reading : Reading) (weights : WeightRows) (flows : List ℤ) (left : ℕ) → KeepsWeights survey reading weights → Circulates (as_read survey reading weights) flows → IsLeft survey reading left → unsigned_abs (value (as_read survey reading weights) flows) ≤ left
left_bounded survey reading weights flows left weighed circulation is_left = by is_left.reached
  where
    by : ((heights : List ℕ → ℤ) × KeepsRead survey reading heights × (read_cost survey reading heights ≡ left)) → unsigned_abs (value (as_read survey reading weights) flows) ≤ left
    by (heights, kept, same) =
        let most = bounds_read survey reading weights flows heights weighed circulation kept in
        omega arith

pub left_shown : (survey : Survey) (reading : Reading) (weights : WeightRows) (flows : List ℤ) (heights : List ℕ → ℤ) → KeepsWeights survey reading weights → Circulates (as_read survey reading weights) flows → KeepsRead survey reading heights → value (as_read survey reading weights) flows ≡ pos (read_cost survey reading heights) → IsLeft survey reading (read_cost survey reading heights)
left_shown survey reading weights flows heights weighed circulation kept equal = record {
  reached = (heights, kept, refl);
  least = λ others others_kept.
      let most = bounds_read survey reading weights flows others weighed circulation others_kept in
      let size : unsigned_abs (value (as_read survey reading weights) flows) ≡ read_cost survey reading heights = ap unsigned_abs equal in
      omega arith;
}
