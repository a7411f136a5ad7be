use Rattle.std.proofs.Common.{◌≡◌, ◌<◌, length}
use Rattle.std.specs.Prelude.{IfSome}
use Rattle.th_search.specs.Inside.DistanceLabels.{AreLabels}
use Rattle.th_search.proofs.distances.TightArcs.lower_from.Given as goal

abbrev pub invariant-loop : goal.invariant-loop
invariant-loop l = record {
  at : IfSome l.at (λ number. number < length l.self.arcs.now);
  queue : l.queue.vertices ≡ l.self.vertices;
  labels : AreLabels l.self.vertices l.self.arcs.now l.labels;
}
