use Rattle.std.proofs.Common.{◌≡◌, ◌<◌, ℕ, bytes_eq, false, get_or}
use Rattle.th_reliability.proofs.benchmarks.place_in.Given as goal

abbrev pub invariant-loop-place : goal.invariant-loop-place
invariant-loop-place l = (k : ℕ) → k < l.place → bytes_eq l.name (get_or l.names k l.name) ≡ false
