use Rattle.std.proofs.Common.{◌≡◌, ◌++◌, drop}
use Rattle.std.specs.List.{flat_map}
use Rattle.th_review_texts.specs.Reviews.{entry_line}
use Rattle.th_review_texts.proofs.entry_tables.write_rows.Given as goal

abbrev pub invariant-loop-row : goal.invariant-loop-row
invariant-loop-row l = l.page ++ flat_map entry_line (drop l.row-index l.entries) ≡ l.fn.page ++ flat_map entry_line l.entries
