use Rattle.std.proofs.Common.{pos, arith}
use Rattle.std.proofs.lemmas.Int.{ints}
use Rattle.th_search.specs.Walks.{arc_at}
use Rattle.th_search.proofs.DistanceLemmas.{arc_within}
use Rattle.th_search.proofs.distances.TightArcs.label_at_head.Goals as goal

pub returns : goal.returns
returns c =
    let arc = arc_at c.args.self.now.arcs.now c.args.number in
    let ends = arc_within _ _ c.args.number c.args.self.now.tight c.requires.number in
    let cost = ends.cost in
    let tail = ends.tail in
    let each = c.requires.labels.within.each in
    let near = c.requires.labels.within.small arc.tail (pos 0) (omega arith) in
    omega (arith, ints)
