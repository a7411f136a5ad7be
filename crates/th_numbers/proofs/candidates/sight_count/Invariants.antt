use Rattle.std.proofs.Common.{◌≡◌, ◌≤◌, take}
use Rattle.std.specs.List.{count_by}
use Rattle.th_numbers.specs.Candidates.{touches}
use Rattle.th_numbers.proofs.candidates.sight_count.Given as goal

abbrev pub invariant-loop-o : goal.invariant-loop-o
invariant-loop-o l = record {
  count : l.count ≡ count_by (touches l.number) (take l.o-index l.network.observations);
  few : l.count ≤ l.o-index;
}
