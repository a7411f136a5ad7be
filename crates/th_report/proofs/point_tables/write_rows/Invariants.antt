use Rattle.std.proofs.Common.{◌≡◌, ◌++◌, drop}
use Rattle.std.specs.List.{flat_map}
use Rattle.th_network.specs.Heights.{heights_at}
use Rattle.th_network.specs.Networks.{points_of}
use Rattle.th_report.specs.Reports.{point_line}
use Rattle.th_report.proofs.point_tables.write_rows.Given as goal

abbrev pub invariant-loop-k : goal.invariant-loop-k
invariant-loop-k l =
    let line = point_line l.network (heights_at (points_of l.network) l.heights) in
    l.page ++ flat_map line (drop l.k (points_of l.network)) ≡ l.fn.page ++ flat_map line (points_of l.network)
