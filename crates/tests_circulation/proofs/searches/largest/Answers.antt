use Rattle.std.proofs.Common.{◌≡◌, unsigned_abs, w64, ap, ◌∙◌, arith}
use Rattle.std.proofs.lemmas.Int.{to_z-of_z, fits_signed_from_abs}
use Rattle.th_search.specs.Walks.{arc_at}
use Rattle.tests_circulation.proofs.Sunk.{cost_within, largest_next, largest_all}
use Rattle.tests_circulation.proofs.searches.largest.Goals as goal

pub loop-arc-preserved : goal.loop-arc-preserved
loop-arc-preserved c =
    let number = c.loop-arc.arc-index in
    let cost = (arc_at c.args.arcs.now number).cost in
    let small = cost_within c.args._n c.args.arcs.now number c.requires c.loop-arc-test.true in
    let is = to_z-of_z w64 cost (fits_signed_from_abs w64 cost (omega arith)) in
    let size : c.unsigned_abs.result ≡ unsigned_abs cost = c.unsigned_abs.ensures.value ∙ ap unsigned_abs is in
    let next = largest_next c.args.arcs.now number c.loop-arc-test.true in
    let most = c.max-largest.ensures in
    let was = c.loop-arc.invariant in
    (omega arith, omega arith)

pub returns : goal.returns
returns c =
    let was = c.loop-arc.invariant in
    record {
      value = was.0 ∙ largest_all c.args.arcs.now c.loop-arc.arc-index c.loop-arc-test.false;
      small = was.1;
    }
