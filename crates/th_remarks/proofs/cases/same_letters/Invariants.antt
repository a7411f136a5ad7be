use Rattle.std.proofs.Common.{◌≡◌, drop}
use Rattle.th_remarks.specs.Alike.{same_letters}
use Rattle.th_remarks.proofs.cases.same_letters.Given as goal

abbrev pub invariant-loop-i : goal.invariant-loop-i
invariant-loop-i l = same_letters (drop l.i l.name) (drop l.i l.other) ≡ same_letters l.name l.other
