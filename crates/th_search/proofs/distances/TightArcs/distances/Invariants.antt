use Rattle.th_search.specs.Inside.DistanceLabels.{AreLabels, room}
use Rattle.th_search.proofs.distances.TightArcs.distances.Given as goal

abbrev pub invariant-passes : goal.invariant-passes
invariant-passes l = AreLabels l.self.vertices l.self.arcs.now l.labels.items

abbrev pub decreases-passes : goal.decreases-passes
decreases-passes l = room l.labels.items
