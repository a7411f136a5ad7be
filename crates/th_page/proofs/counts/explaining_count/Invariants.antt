use Rattle.std.proofs.Common.{◌≡◌, ◌≤◌, take}
use Rattle.std.specs.List.{count_by}
use Rattle.th_page.specs.Counts.{explains_all}
use Rattle.th_page.proofs.counts.explaining_count.Given as goal

abbrev pub invariant-loop-row : goal.invariant-loop-row
invariant-loop-row l = record {
  count : l.count ≡ count_by explains_all (take l.row-index l.rows);
  few : l.count ≤ l.row-index;
}
