use Rattle.std.proofs.Common.{◌≡◌, ◌≤◌, take}
use Rattle.std.specs.List.{count_by}
use Rattle.th_page.specs.Counts.{is_first}
use Rattle.th_page.proofs.counts.first_count.Given as goal

abbrev pub invariant-loop-row : goal.invariant-loop-row
invariant-loop-row l = record {
  count : l.count ≡ count_by is_first (take l.row-index l.rows);
  few : l.count ≤ l.row-index;
}
