use Rattle.std.proofs.Common.{◌≡◌, ◌++◌, drop}
use Rattle.std.specs.List.{flat_map}
use Rattle.th_review_texts.specs.Reviews.{largest_line}
use Rattle.th_review_texts.proofs.observation_tables.write_largest_rows.Given as goal

abbrev pub invariant-loop-row : goal.invariant-loop-row
invariant-loop-row l = l.page ++ flat_map (largest_line l.limit) (drop l.row-index l.rows) ≡ l.fn.page ++ flat_map (largest_line l.limit) l.rows
