use Rattle.std.proofs.Common.{◌≡◌, ◌≤◌, take}
use Rattle.std.specs.List.{count_by}
use Rattle.th_page.specs.Counts.{is_fixed}
use Rattle.th_page.proofs.counts.fixed_count.Given as goal

abbrev pub invariant-loop-row : goal.invariant-loop-row
invariant-loop-row l = record {
  count : l.count ≡ count_by is_fixed (take l.row-index l.points);
  few : l.count ≤ l.row-index;
}
