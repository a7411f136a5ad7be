use Rattle.std.proofs.Common.{◌≡◌, ◌≤◌, take}
use Rattle.std.specs.List.{count_by}
use Rattle.th_page.specs.Counts.{is_unchecked_entry}
use Rattle.th_page.proofs.counts.unchecked_entries.Given as goal

abbrev pub invariant-loop-row : goal.invariant-loop-row
invariant-loop-row l = record {
  count : l.count ≡ count_by is_unchecked_entry (take l.row-index l.entries);
  few : l.count ≤ l.row-index;
}
