use Rattle.th_search.specs.Inside.Marks.{AreMarked}
use Rattle.th_search.proofs.entries.vertex_on_cycle.Given as goal

abbrev pub invariant-loop-start : goal.invariant-loop-start
invariant-loop-start l = AreMarked l.arcs l.entries l.marks l.start
