use Rattle.std.proofs.Common.{◌≡◌, ◌++◌, drop, take}
use Rattle.th_notes.specs.Parts.{renamed}
use Rattle.th_notes.proofs.parts.rename.Given as goal

abbrev pub invariant-loop-part : goal.invariant-loop-part
invariant-loop-part l = l.parts ≡ renamed l.from l.to (take l.part-index l.fn.parts) ++ drop l.part-index l.fn.parts
