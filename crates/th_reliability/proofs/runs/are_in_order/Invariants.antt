use Rattle.std.proofs.Common.{◌<◌, ◌+◌, ℕ, get_or}
use Rattle.th_observations.specs.Observed.{Observed}
use Rattle.th_reliability.specs.Inside.Runs.{IsNoLater}
use Rattle.th_reliability.proofs.runs.are_in_order.Given as goal

abbrev pub invariant-loop-k : goal.invariant-loop-k
invariant-loop-k l = (j : ℕ) (d : Observed) → j + 1 < l.k → IsNoLater (get_or l.observations j d) (get_or l.observations (j + 1) d)
