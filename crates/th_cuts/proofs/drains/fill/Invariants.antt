use Rattle.std.proofs.Common.{◌≡◌, ◌-◌}
use Rattle.th_cuts.proofs.drains.fill.Given as goal

abbrev pub invariant-filling : goal.invariant-filling
invariant-filling l = l.flow.drain ≡ l.fn.flow.drain

abbrev pub decreases-filling : goal.decreases-filling
decreases-filling l = l.flow.drain.most - l.flow.value
