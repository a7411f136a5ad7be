use Rattle.std.proofs.Common.{◌-ℤ◌, unsigned_abs}
use Rattle.th_explain.specs.Inside.Brackets.{IsStepUp}
use Rattle.th_explain.proofs.freed.highest.Given as goal

abbrev pub invariant-narrow : goal.invariant-narrow
invariant-narrow l = IsStepUp l.network l.number l.flat.cost l.high l.right

abbrev pub decreases-narrow : goal.decreases-narrow
decreases-narrow l = unsigned_abs (l.right.change -ℤ l.high.change)
