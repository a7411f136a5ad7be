use Rattle.std.proofs.Common.{◌≡◌, ◌++◌, drop, map}
use Rattle.th_csv.specs.Texts.{csv_text}
use Rattle.th_network.specs.Heights.{heights_at}
use Rattle.th_network.specs.Networks.{points_of}
use Rattle.th_report.specs.Heights.{height_record, heights_text}
use Rattle.th_report.proofs.heights.heights_csv.Given as goal

abbrev pub invariant-loop-k : goal.invariant-loop-k
invariant-loop-k l =
    let low = heights_at (points_of l.network) l.low in
    let high = heights_at (points_of l.network) l.high in
    l.rows.text ++ csv_text (map (height_record low high) (drop l.k (points_of l.network))) ≡ heights_text l.network low high
