use Rattle.std.proofs.Common.{◌≡◌, ◌≤◌, take}
use Rattle.std.specs.List.{count_by}
use Rattle.th_html.specs.Shown.{is_moved}
use Rattle.th_html.proofs.shown.moved_count.Given as goal

abbrev pub invariant-loop-point : goal.invariant-loop-point
invariant-loop-point l = record {
  count : l.count ≡ count_by is_moved (take l.point-index l.points);
  few : l.count ≤ l.point-index;
}
