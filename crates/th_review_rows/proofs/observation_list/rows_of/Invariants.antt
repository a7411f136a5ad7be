use Rattle.std.proofs.Common.{◌≡◌, ◌+◌, ◌++◌, drop, map}
use Rattle.std.specs.List.{enumerate_from, zip}
use Rattle.th_network.specs.Networks.{at_points_of}
use Rattle.th_review_rows.specs.Rows.{observation_row, observation_rows}
use Rattle.th_review_rows.proofs.observation_list.rows_of.Given as goal

abbrev pub invariant-loop-i : goal.invariant-loop-i
invariant-loop-i l =
    let low = at_points_of l.network l.low in
    l.rows.items ++ map (observation_row l.network low) (enumerate_from (l.i + 1) (zip (drop l.i l.network.observations) (zip (drop l.i l.controls) (drop l.i l.blames))))
    ≡ observation_rows l.network low l.controls l.blames
