use Rattle.std.proofs.Common.{◌≡◌, ◌≤◌, take}
use Rattle.th_remarks.specs.Repeats.{sights_in}
use Rattle.th_remarks.proofs.repeats.sights_in.Given as goal

abbrev pub invariant-loop-o : goal.invariant-loop-o
invariant-loop-o l = record {
  counted : l.count ≡ sights_in (take l.o-index l.observations) l.book;
  small : l.count ≤ l.o-index;
}
