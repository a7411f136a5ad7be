use Rattle.std.proofs.Common.{◌≡◌, ◌+◌, length}
use Rattle.th_cuts.specs.Inside.CutTrees.{AreTops}
use Rattle.th_cuts.proofs.near.tops_of.Given as goal

abbrev pub invariant-loop-number : goal.invariant-loop-number
invariant-loop-number l = record {
  each : length l.tops.items ≡ l.number + 1;
  tops : AreTops l.graph.edges.items l.weight l.tops.items;
}
