use Rattle.std.proofs.Common.{arith}
use Rattle.std.proofs.lemmas.Int.{ints}
use Rattle.th_search.proofs.DistanceLemmas.{lowered_labels, lowered_room}
use Rattle.th_search.proofs.distances.TightArcs.lower.Goals as goal

pub returns-then-label-labels-clause-labels : goal.returns-then-label-labels-clause-labels
returns-then-label-labels-clause-labels c =
    let is = c.label_at_head-label.ensures in
    let less = c.if-label-labels.true in
    lowered_labels _ _ c.args.labels.now c.args.number _ c.args.self.now.tight c.requires.labels c.requires.number (omega (arith, ints)) (omega (arith, ints))

pub returns-then-label-labels-clause-lowered : goal.returns-then-label-labels-clause-lowered
returns-then-label-labels-clause-lowered c =
    let is = c.label_at_head-label.ensures in
    let less = c.if-label-labels.true in
    lowered_room _ _ c.args.labels.now c.args.number _ c.args.self.now.tight c.requires.labels c.requires.number (omega (arith, ints)) (omega (arith, ints))
