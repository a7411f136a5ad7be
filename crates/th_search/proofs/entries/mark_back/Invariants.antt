use Rattle.th_search.proofs.MarkLemmas.{IsMarking, unmarked}
use Rattle.th_search.proofs.entries.mark_back.Given as goal

abbrev pub invariant-loop-marks : goal.invariant-loop-marks
invariant-loop-marks l = IsMarking l.arcs l.entries l.marks l.start l.vertex

abbrev pub decreases-loop-marks : goal.decreases-loop-marks
decreases-loop-marks l = unmarked l.marks
