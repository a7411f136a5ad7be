use Rattle.std.proofs.Common.{◌≡◌, length}
use Rattle.th_remarks.specs.Inside.Said.{AreSaidIn}
use Rattle.th_remarks.specs.Repeats.{AreRepeats}
use Rattle.th_remarks.proofs.repeats.repeats_in.Given as goal

abbrev pub invariant-loop-k : goal.invariant-loop-k
invariant-loop-k l = record {
  noted : AreRepeats l.observations l.k l.notes.items;
  all : length l.before.items ≡ l.k;
  said : AreSaidIn l.observations l.before.items;
}
