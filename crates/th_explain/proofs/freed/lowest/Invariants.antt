use Rattle.std.proofs.Common.{◌-ℤ◌, unsigned_abs}
use Rattle.th_explain.specs.Inside.Brackets.{IsStepDown}
use Rattle.th_explain.proofs.freed.lowest.Given as goal

abbrev pub invariant-narrow : goal.invariant-narrow
invariant-narrow l = IsStepDown l.network l.number l.flat.cost l.left l.low

abbrev pub decreases-narrow : goal.decreases-narrow
decreases-narrow l = unsigned_abs (l.low.change -ℤ l.left.change)
