use Rattle.std.proofs.Common.{◌≡◌, sum_by, take}
use Rattle.th_changes.specs.Rerouted.{priced}
use Rattle.th_changes.proofs.prices.cost_at.Given as goal

abbrev pub invariant-loop-i : goal.invariant-loop-i
invariant-loop-i l = l.total ≡ sum_by (priced l.network l.number l.change l.heights) (take l.i l.network.observations)
