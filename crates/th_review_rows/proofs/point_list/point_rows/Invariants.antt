use Rattle.std.proofs.Common.{◌≡◌, ◌++◌, drop, map}
use Rattle.std.specs.List.{zip}
use Rattle.th_network.specs.Heights.{heights_at}
use Rattle.th_network.specs.Networks.{points_of}
use Rattle.th_review_rows.specs.Rows.{point_row, point_rows}
use Rattle.th_review_rows.proofs.point_list.point_rows.Given as goal

abbrev pub invariant-loop-k : goal.invariant-loop-k
invariant-loop-k l =
    let low = heights_at (points_of l.network) l.low in
    let high = heights_at (points_of l.network) l.high in
    l.rows.items ++ map (point_row low high) (zip (drop l.k (points_of l.network)) (zip (drop l.k l.strengths) (drop l.k l.unit_strengths)))
    ≡ point_rows l.network low high l.strengths l.unit_strengths
