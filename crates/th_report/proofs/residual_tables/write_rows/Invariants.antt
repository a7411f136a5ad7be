use Rattle.std.proofs.Common.{◌≡◌, ◌+◌, ◌++◌, drop, filter}
use Rattle.std.specs.List.{enumerate_from, flat_map, zip}
use Rattle.th_blunders.specs.Blunders.{is_blunder}
use Rattle.th_report.specs.Reports.{blunder_rows, line_in, residual_rows}
use Rattle.th_report.proofs.residual_tables.write_rows.Given as goal

abbrev pub invariant-loop-i : goal.invariant-loop-i
invariant-loop-i l =
    (l.page ++ flat_map (line_in l.network l.limit) (enumerate_from (l.i + 1) (zip (drop l.i l.network.observations) (drop l.i l.residuals)))
    ≡ l.fn.page ++ flat_map (line_in l.network l.limit) (residual_rows l.network l.residuals))
    × (l.blunders ++ flat_map (line_in l.network l.limit) (filter (λ row. is_blunder l.limit row.1.1) (enumerate_from (l.i + 1) (zip (drop l.i l.network.observations) (drop l.i l.residuals))))
    ≡ l.fn.blunders ++ flat_map (line_in l.network l.limit) (blunder_rows l.network l.residuals l.limit))
