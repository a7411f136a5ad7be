use Rattle.std.proofs.Common.{◌≡◌}
use Rattle.th_search.specs.Inside.DistanceLabels.{AreLabels}
use Rattle.th_search.proofs.distances.TightArcs.spread.Given as goal

abbrev pub invariant-loop : goal.invariant-loop
invariant-loop l = record {
  queue : l.queue.vertices ≡ l.self.vertices;
  labels : AreLabels l.self.vertices l.self.arcs.now l.labels;
}
