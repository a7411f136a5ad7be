use Rattle.std.proofs.Common.{◌≡◌, ℕ, List, Option, Some, ◌<◌, length, slice_get, slice_index_or}
use Rattle.th_network.specs.Networks.{points_of}
use Rattle.th_network.specs.Vertices.{free_before}
use Rattle.th_reliability.specs.Numbers.{HasStrength}
use Rattle.th_reliability.proofs.strengths.strengths_of.Given as goal

abbrev pub invariant-loop-place : goal.invariant-loop-place
invariant-loop-place l = record {
  each : length l.strengths.items ≡ l.place;
  vertex : l.vertex ≡ free_before l.network.benchmarks (points_of l.network) l.place;
  are : (k : ℕ) (d : Option ℕ) → k < length l.strengths.items → (name : List ℕ) → slice_get (points_of l.network) k ≡ Some name → HasStrength l.network name (slice_index_or l.strengths.items k d);
}
