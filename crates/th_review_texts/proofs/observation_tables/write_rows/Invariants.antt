use Rattle.std.proofs.Common.{◌≡◌, ◌++◌, drop}
use Rattle.std.specs.List.{flat_map}
use Rattle.th_review_texts.specs.Reviews.{observation_line}
use Rattle.th_review_texts.proofs.observation_tables.write_rows.Given as goal

abbrev pub invariant-loop-row : goal.invariant-loop-row
invariant-loop-row l = l.page ++ flat_map observation_line (drop l.row-index l.observations) ≡ l.fn.page ++ flat_map observation_line l.observations
