use Rattle.std.proofs.Common.{◌≡◌, ◌++◌, drop}
use Rattle.std.specs.List.{flat_map}
use Rattle.th_review_texts.specs.Reviews.{point_line}
use Rattle.th_review_texts.proofs.point_tables.write_rows.Given as goal

abbrev pub invariant-loop-row : goal.invariant-loop-row
invariant-loop-row l = l.page ++ flat_map (point_line l.largest) (drop l.row-index l.points) ≡ l.fn.page ++ flat_map (point_line l.largest) l.points
