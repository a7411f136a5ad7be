use Rattle.std.proofs.Common.{◌≡◌, ◌++◌, drop}
use Rattle.std.specs.List.{flat_map}
use Rattle.th_explain_texts.specs.Columns.{row_line}
use Rattle.th_explain_texts.proofs.columns.write_rows.Given as goal

abbrev pub invariant-loop-row : goal.invariant-loop-row
invariant-loop-row l = l.page ++ flat_map row_line (drop l.row-index l.rows) ≡ l.fn.page ++ flat_map row_line l.rows
