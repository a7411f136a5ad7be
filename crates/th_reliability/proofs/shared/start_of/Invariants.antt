use Rattle.std.proofs.Common.{◌≡◌, ◌<◌, ℕ, false, get_or}
use Rattle.th_observations.specs.Observed.{Observed}
use Rattle.th_reliability.specs.Sights.{in_sights}
use Rattle.th_reliability.proofs.shared.start_of.Given as goal

abbrev pub invariant-loop-i : goal.invariant-loop-i
invariant-loop-i l = (k : ℕ) (d : Observed) → k < l.i → in_sights l.sights (get_or l.observations k d) ≡ false
