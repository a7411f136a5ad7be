use Rattle.std.proofs.Common.{◌≡◌, ◌≤◌, take}
use Rattle.std.specs.List.{count_by}
use Rattle.th_picture.specs.Gaps.{has_gap}
use Rattle.th_picture.proofs.gaps.gap_count.Given as goal

abbrev pub invariant-loop-sight : goal.invariant-loop-sight
invariant-loop-sight l = record {
  count : l.count ≡ count_by (has_gap l.frame l.group) (take l.sight-index l.sights);
  few : l.count ≤ l.sight-index;
}
