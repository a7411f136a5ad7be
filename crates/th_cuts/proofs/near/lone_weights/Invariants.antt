use Rattle.std.proofs.Common.{◌≡◌, ℕ, ◌<◌, length, take}
use Rattle.th_cuts.specs.CutWeights.{cut_weight}
use Rattle.th_cuts.specs.Drains.{room_at}
use Rattle.th_cuts.proofs.NearLemmas.{alone}
use Rattle.th_cuts.proofs.near.lone_weights.Given as goal

abbrev pub invariant-loop-edge : goal.invariant-loop-edge
invariant-loop-edge l = record {
  each : length l.lone.items ≡ l.graph.vertices;
  weigh : (vertex : ℕ) → vertex < length l.lone.items → room_at l.lone.items vertex ≡ cut_weight (alone vertex) (take l.edge-index l.graph.edges.items);
}
