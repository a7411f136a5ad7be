use Rattle.th_reliability.proofs.MarkLemmas.{marks_all}
use Rattle.th_reliability.proofs.marks.marks_of.Goals as goal

pub returns : goal.returns
returns c = marks_all c.args.runs.now.observations.now c.args.sights.now c.run_of-start.result c.loop-i.i c.loop-i.marks.items c.run_of-start.ensures c.loop-i-test.false c.loop-i.invariant
