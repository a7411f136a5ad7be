use Rattle.std.proofs.Common.{take}
use Rattle.th_remarks.specs.Inside.Said.{IsSaidIn}
use Rattle.th_remarks.proofs.repeats.said_in.Given as goal

abbrev pub invariant-loop-o : goal.invariant-loop-o
invariant-loop-o l = IsSaidIn (take l.o-index l.observations) l.book l.all
