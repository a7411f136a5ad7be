use Rattle.std.proofs.Common.{◌≡◌, ◌≤◌, take}
use Rattle.std.specs.Prelude.{◌&&◌}
use Rattle.std.specs.List.{count_by}
use Rattle.th_remarks.specs.Inside.Said.{has_said, said}
use Rattle.th_remarks.specs.Repeats.{is_in}
use Rattle.th_remarks.proofs.repeats.shared.Given as goal

abbrev pub invariant-loop-o : goal.invariant-loop-o
invariant-loop-o l = record {
  counted : l.count ≡ count_by (λ o. is_in l.book o && has_said l.other (said o)) (take l.o-index l.observations);
  small : l.count ≤ l.o-index;
}
