use Rattle.std.proofs.Common.{◌≡◌, ◌≤◌, take}
use Rattle.std.specs.List.{count_by}
use Rattle.th_reliability.specs.Sights.{in_sights}
use Rattle.th_numbers.proofs.candidates.count_among.Given as goal

abbrev pub invariant-loop-o : goal.invariant-loop-o
invariant-loop-o l = record {
  count : l.count ≡ count_by (in_sights l.sights) (take l.o-index l.observations);
  few : l.count ≤ l.o-index;
}
