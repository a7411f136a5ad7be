use Rattle.std.proofs.Common.{◌≡◌, ◌++◌, drop}
use Rattle.std.specs.List.{flat_map, zip}
use Rattle.th_network.specs.Networks.{points_of}
use Rattle.th_notes.specs.Parts.{mark_of, marks_of}
use Rattle.th_notes.proofs.parts.marks_of.Given as goal

abbrev pub invariant-loop-k : goal.invariant-loop-k
invariant-loop-k l =
    l.marks.items ++ flat_map (mark_of l.network) (zip (drop l.k (points_of l.network)) (drop l.k l.parts.items)) ≡ marks_of l.network
