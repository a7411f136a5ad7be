use Rattle.std.proofs.Common.{◌≡◌, ◌+◌, ◌++◌, drop}
use Rattle.std.specs.List.{enumerate_from, flat_map}
use Rattle.th_network.specs.Heights.{heights_at}
use Rattle.th_network.specs.Networks.{points_of}
use Rattle.th_report.specs.Gsi.{gsi_text, text_of_point}
use Rattle.th_report.proofs.gsi.heights_gsi.Given as goal

abbrev pub invariant-loop-k : goal.invariant-loop-k
invariant-loop-k l =
    let heights = heights_at (points_of l.network) l.heights in
    l.text.items ++ flat_map (text_of_point heights) (enumerate_from (l.k + 1) (drop l.k (points_of l.network))) ≡ gsi_text l.network heights
