use Rattle.th_points.specs.Points.{points}
use Rattle.th_network.proofs.VertexLemmas.{IsNumbered}
use Rattle.th_network.proofs.vertices.Vertices.of.Given as goal

abbrev pub invariant-loop-height : goal.invariant-loop-height
invariant-loop-height l = IsNumbered l.fn.sites.benchmarks (points l.fn.sites.observations l.fn.sites.benchmarks) l.height-index l.count l.of_places.items
