use Rattle.th_reliability.proofs.MarkLemmas.{AreMarked}
use Rattle.th_reliability.proofs.marks.marks_of.Given as goal

abbrev pub invariant-loop-i : goal.invariant-loop-i
invariant-loop-i l = AreMarked l.observations l.sights l.i l.marks.items
