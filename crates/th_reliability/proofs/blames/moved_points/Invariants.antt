use Rattle.std.proofs.Common.{◌≡◌, ◌≤◌, take}
use Rattle.std.specs.List.{count_by}
use Rattle.th_cuts.specs.Drains.{on_side}
use Rattle.th_cuts.specs.CutWeights.{separates}
use Rattle.th_reliability.proofs.blames.moved_points.Given as goal

abbrev pub invariant-loop-vertex : goal.invariant-loop-vertex
invariant-loop-vertex l = record {
  count : l.count ≡ count_by (λ vertex. separates (on_side l.side) vertex 0) (take l.vertex-index l.vertices);
  few : l.count ≤ l.vertex-index;
}
