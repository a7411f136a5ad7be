use Rattle.std.proofs.Common.{◌≡◌, drop}
use Rattle.th_remarks.specs.Alike.{first_use}
use Rattle.th_remarks.proofs.cases.first_use.Given as goal

abbrev pub invariant-loop-o : goal.invariant-loop-o
invariant-loop-o l = first_use (drop l.o-index l.observations) l.name ≡ first_use l.observations l.name
