use Rattle.std.proofs.Common.{◌≡◌, ◌≤◌, take}
use Rattle.std.specs.List.{count_by}
use Rattle.th_page.specs.Counts.{is_marked}
use Rattle.th_page.proofs.counts.marked_count.Given as goal

abbrev pub invariant-loop-sight : goal.invariant-loop-sight
invariant-loop-sight l = record {
  count : l.count ≡ count_by (is_marked l.limit) (take l.sight-index l.sights);
  few : l.count ≤ l.sight-index;
}
