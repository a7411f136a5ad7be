use Rattle.std.proofs.Common.{◌≡◌, ◌++◌, drop, map}
use Rattle.std.specs.List.{zip}
use Rattle.th_review_rows.specs.Rows.{entry_row, entry_rows}
use Rattle.th_review_rows.proofs.entry_list.rows_of.Given as goal

abbrev pub invariant-loop-k : goal.invariant-loop-k
invariant-loop-k l =
    l.rows.items ++ map (entry_row l.network) (zip (drop l.k l.entries) (drop l.k l.effects)) ≡ entry_rows l.network l.entries l.effects
