use Rattle.std.proofs.Common.{◌≡◌, length}
use Rattle.th_cuts.proofs.branches.adopt.Given as goal

abbrev pub invariant-loop-later : goal.invariant-loop-later
invariant-loop-later l = length l.parents.items ≡ length l.fn.parents.items
