use Rattle.std.proofs.Common.{take}
use Rattle.th_cuts.specs.Inside.Merges.{IsMerged}
use Rattle.th_cuts.proofs.merges.merged.Given as goal

abbrev pub invariant-loop-edge : goal.invariant-loop-edge
invariant-loop-edge l = IsMerged (take l.edge-index l.edges) l.merging.edges.items
