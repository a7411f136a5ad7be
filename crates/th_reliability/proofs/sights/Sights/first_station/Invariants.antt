use Rattle.std.proofs.Common.{◌≡◌, ℕ, ◌<◌, false, get_or}
use Rattle.th_observations.specs.Observed.{Observed}
use Rattle.th_reliability.specs.Sights.{in_sights}
use Rattle.th_reliability.proofs.sights.Sights.first_station.Given as goal

abbrev pub invariant-loop-o : goal.invariant-loop-o
invariant-loop-o l = (k : ℕ) (d : Observed) → k < l.o-index → in_sights l.self (get_or l.observations k d) ≡ false
