use Rattle.std.proofs.Common.{◌-ℤ◌, unsigned_abs}
use Rattle.th_explain.specs.Inside.Brackets.{AreRound}
use Rattle.th_explain.proofs.freed.freed_between.Given as goal

abbrev pub invariant-narrow : goal.invariant-narrow
invariant-narrow l = AreRound l.network l.number l.left l.right

abbrev pub decreases-narrow : goal.decreases-narrow
decreases-narrow l = unsigned_abs (l.right.change -ℤ l.left.change)
