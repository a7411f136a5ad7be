use Rattle.std.proofs.Common.{◌≡◌, ◌≤◌, take}
use Rattle.std.specs.List.{count_by}
use Rattle.th_page.specs.Counts.{is_unchecked_sight}
use Rattle.th_page.proofs.counts.unchecked_sights.Given as goal

abbrev pub invariant-loop-row : goal.invariant-loop-row
invariant-loop-row l = record {
  count : l.count ≡ count_by is_unchecked_sight (take l.row-index l.sights);
  few : l.count ≤ l.row-index;
}
