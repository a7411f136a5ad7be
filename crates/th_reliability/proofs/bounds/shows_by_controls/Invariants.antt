use Rattle.th_reliability.specs.Inside.Bounds.{AreNoLess}
use Rattle.th_reliability.specs.Sights.{in_sights}
use Rattle.th_reliability.proofs.bounds.shows_by_controls.Given as goal

abbrev pub invariant-loop-i : goal.invariant-loop-i
invariant-loop-i l = AreNoLess l.network (in_sights l.sights) l.least l.i
