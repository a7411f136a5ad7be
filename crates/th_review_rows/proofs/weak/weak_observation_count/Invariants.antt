use Rattle.std.proofs.Common.{◌≡◌, ◌≤◌, take}
use Rattle.std.specs.List.{count_by}
use Rattle.th_review_rows.specs.Weak.{is_weak_observation}
use Rattle.th_review_rows.proofs.weak.weak_observation_count.Given as goal

abbrev pub invariant-loop-row : goal.invariant-loop-row
invariant-loop-row l = record {
  count : l.count ≡ count_by is_weak_observation (take l.row-index l.rows);
  few : l.count ≤ l.row-index;
}
