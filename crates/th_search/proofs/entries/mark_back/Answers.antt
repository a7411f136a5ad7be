use Rattle.std.proofs.Common.{length, ◌≡◌, ◌+◌, arith, length-set}
use Rattle.th_search.proofs.DepthLemmas.{tails_of}
use Rattle.th_search.proofs.MarkLemmas.{marking_met, marking_next, marking_root}
use Rattle.th_search.proofs.entries.mark_back.Goals as goal

pub returns-in_default-clause-none : goal.returns-in_default-clause-none
returns-in_default-clause-none c is = marking_root _ _ _ _ _ c.in_default.is c.loop-marks.invariant

pub bounds-arcs-number : goal.bounds-arcs-number
bounds-arcs-number c = (c.requires.ready.entered.each c.loop-marks.vertex c.in-Some.number c.in-Some.is).within

pub loop-marks-preserved : goal.loop-marks-preserved
loop-marks-preserved c =
    let tail = tails_of _ _ _ c.requires.ready.ends c.requires.ready.entered c.loop-marks.vertex c.in-Some.number c.in-Some.is in
    let size : length c.loop-marks.marks ≡ length c.args.entries.now = omega arith in
    marking_next _ _ _ _ _ _ (omega arith) c.in-Some.is c.loop-marks.invariant (omega (arith, length-set c.loop-marks.marks c.loop-marks.vertex (c.args.start + 1)))

pub returns-else-marks-vertex-clause-none : goal.returns-else-marks-vertex-clause-none
returns-else-marks-vertex-clause-none c is = marking_met _ _ _ _ _ c.loop-marks-test.false c.if-marks-vertex.false c.loop-marks.invariant
