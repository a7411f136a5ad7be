use Rattle.std.proofs.Common.{take}
use Rattle.th_notes.specs.Uses.{AreUsed, all_ends}
use Rattle.th_notes.proofs.uses.UsedNames.of_ends.Given as goal

abbrev pub invariant-loop-o : goal.invariant-loop-o
invariant-loop-o l = AreUsed (all_ends (take l.o-index l.observations)) l.used
