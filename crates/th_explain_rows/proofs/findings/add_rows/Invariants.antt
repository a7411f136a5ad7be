use Rattle.std.proofs.Common.{◌≡◌, ◌++◌, drop}
use Rattle.std.specs.Prelude.{option_to_list}
use Rattle.std.specs.List.{flat_map}
use Rattle.th_explain_rows.proofs.findings.add_rows.Given as goal

abbrev pub invariant-loop-row : goal.invariant-loop-row
invariant-loop-row l = l.rows.items ++ flat_map option_to_list (drop l.row-index l.found) ≡ l.fn.rows.items ++ flat_map option_to_list l.found
