use Rattle.std.proofs.Common.{◌≡◌, ◌<◌, ℕ, Option, Some, length, slice_get, slice_index_or}
use Rattle.th_observations.specs.Observed.{Observed}
use Rattle.th_reliability.specs.Effects.{HasOwnBlame}
use Rattle.th_reliability.specs.declared.blames.Blame.{Blame}
use Rattle.th_reliability.proofs.own_blames.own_blames_of.Given as goal

abbrev pub invariant-loop-place : goal.invariant-loop-place
invariant-loop-place l = record {
  each : length l.blames.items ≡ l.place;
  are : (k : ℕ) (o : Observed) (d : Option ℕ) (e : Option Blame) → k < length l.blames.items → slice_get l.network.observations k ≡ Some o → HasOwnBlame l.network k o (slice_index_or l.controls k d) (slice_index_or l.blames.items k e);
}
