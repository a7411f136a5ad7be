use Rattle.std.proofs.Common.{◌≡◌, ◌++◌, drop}
use Rattle.std.specs.List.{flat_map}
use Rattle.th_html.specs.Tables.{entry_row}
use Rattle.th_html.proofs.entry_tables.write_rows.Given as goal

abbrev pub invariant-loop-row : goal.invariant-loop-row
invariant-loop-row l = l.page ++ flat_map entry_row (drop l.row-index l.rows) ≡ l.fn.page ++ flat_map entry_row l.rows
