use Rattle.th_cuts.proofs.NearLemmas.{AreNearTo}
use Rattle.th_cuts.proofs.near.near_rooms.Given as goal

abbrev pub invariant-loop-other : goal.invariant-loop-other
invariant-loop-other l = AreNearTo l.graph.vertices l.graph.edges.items l.most l.vertex l.other l.rooms.items
