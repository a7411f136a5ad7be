use Rattle.std.proofs.Common.{◌≡◌, ℕ, Option, Some, ◌<◌, length, slice_get, slice_index_or}
use Rattle.th_observations.specs.Observed.{Observed}
use Rattle.th_reliability.specs.Numbers.{HasControl}
use Rattle.th_reliability.proofs.controls.controls_of.Given as goal

abbrev pub invariant-loop-number : goal.invariant-loop-number
invariant-loop-number l = record {
  each : length l.controls.items ≡ l.number;
  are : (k : ℕ) (d : Option ℕ) → k < length l.controls.items → (o : Observed) → slice_get l.network.observations k ≡ Some o → HasControl l.network o (slice_index_or l.controls.items k d);
}
