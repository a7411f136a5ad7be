use Rattle.std.proofs.Common.{◌≡◌, ◌≤◌, take}
use Rattle.std.specs.List.{count_by}
use Rattle.th_picture.specs.Groups.{is_in}
use Rattle.th_picture.proofs.groups.group_count.Given as goal

abbrev pub invariant-loop-sight : goal.invariant-loop-sight
invariant-loop-sight l = record {
  count : l.count ≡ count_by (is_in l.group) (take l.sight-index l.sights);
  few : l.count ≤ l.sight-index;
}
