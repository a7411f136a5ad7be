use Rattle.std.proofs.Common.{◌≡◌, ◌*◌, ◌<◌, ◌≤◌, All, map, take, sum_by}
use Rattle.th_tables.specs.Limits.{max_weight}
use Rattle.th_network.specs.Networks.{vertices_of}
use Rattle.th_reliability.specs.Edges.{edge_of}
use Rattle.th_reliability.proofs.edges.edges_of.Given as goal

abbrev pub invariant-loop-number : goal.invariant-loop-number
invariant-loop-number l = record {
  edges : l.edges.items ≡ map (edge_of l.network.observations l.network.benchmarks l.network.weights) (take l.number l.network.observations);
  ends : All (λ edge. (edge.tail < vertices_of l.network) × (edge.head < vertices_of l.network)) l.edges.items;
  light : sum_by (λ edge. edge.weight) l.edges.items ≤ max_weight * l.number;
}
