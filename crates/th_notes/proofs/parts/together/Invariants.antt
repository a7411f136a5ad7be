use Rattle.std.proofs.Common.{◌≡◌, ◌++◌, drop}
use Rattle.th_notes.specs.Parts.{together}
use Rattle.th_notes.proofs.parts.together.Given as goal

abbrev pub invariant-loop-mark : goal.invariant-loop-mark
invariant-loop-mark l = l.own.items ++ together l.part (drop l.mark-index l.marks) ≡ together l.part l.marks
