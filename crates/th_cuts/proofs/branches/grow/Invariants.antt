use Rattle.std.proofs.Common.{◌≡◌, ◌+◌, ◌-◌, ◌≤◌, length}
use Rattle.th_cuts.specs.Inside.CutTrees.{AreBranches}
use Rattle.th_cuts.proofs.branches.grow.Given as goal

abbrev pub invariant-loop-vertex : goal.invariant-loop-vertex
invariant-loop-vertex g l = record {
  parents : length l.parents.items ≡ l.graph.vertices;
  each : length l.branches.items + 1 ≡ l.vertex;
  few : length l.branches.items ≤ l.graph.vertices - 1;
  branches : AreBranches l.graph.vertices l.graph.edges.items l.branches.items;
}
