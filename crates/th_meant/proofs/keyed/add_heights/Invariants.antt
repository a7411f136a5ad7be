use Rattle.std.proofs.Common.{◌≡◌, ◌++◌, drop}
use Rattle.std.specs.List.{flat_map}
use Rattle.th_meant.specs.Keyed.{keyed_as}
use Rattle.th_meant.proofs.keyed.add_heights.Given as goal

abbrev pub invariant-loop-height : goal.invariant-loop-height
invariant-loop-height l =
    l.keyed.items ++ flat_map (keyed_as l.entries l.tolerance (l.at.place, l.at.row.now)) (drop l.height-index l.heights)
    ≡ l.fn.keyed.items ++ flat_map (keyed_as l.entries l.tolerance (l.at.place, l.at.row.now)) l.heights
