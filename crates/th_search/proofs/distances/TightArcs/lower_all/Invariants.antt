use Rattle.std.proofs.Common.{◌≡◌, ◌<◌, ◌≤◌, ℕ, true, false, length}
use Rattle.th_search.specs.Potentials.{value_at}
use Rattle.th_search.specs.Sweeps.{index_at}
use Rattle.th_search.specs.Walks.{arc_at}
use Rattle.th_search.specs.Inside.DistanceLabels.{AreLabels, room}
use Rattle.th_search.specs.Distances.{IsKept}
use Rattle.th_search.proofs.distances.TightArcs.lower_all.Given as goal

abbrev pub invariant-loop-step : goal.invariant-loop-step
invariant-loop-step l = record {
  labels : AreLabels l.self.vertices l.self.arcs.now l.labels;
  most : room l.labels ≤ room l.fn.labels;
  fallen : l.lowered ≡ true → room l.labels < room l.fn.labels;
  kept : l.lowered ≡ false → (k : ℕ) → k < l.step → IsKept (value_at l.labels) (arc_at l.self.arcs.now (index_at l.sweep (length l.self.arcs.now) k));
}
