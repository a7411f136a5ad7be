use Rattle.std.proofs.Common.{◌≤◌, All, unsigned_abs, sym, subst, arith}
use Rattle.tests_circulation.proofs.Sunk.{sunk_are_potentials, product_is}
use Rattle.tests_circulation.proofs.searches.sink_all.Goals as goal

pub deepest-deepest-requires : goal.deepest-deepest-requires
deepest-deepest-requires c =
    subst (λ most. All (λ potential. unsigned_abs potential ≤ most) c.args.potentials.now) (sym (product_is c.args.n c.args.arcs.now c.from.result c.largest.result c.from.ensures c.largest.ensures.value)) c.requires.potentials.low

pub returns : goal.returns
returns c =
    let within = c.deepest-deepest.ensures.within in
    let most = product_is c.args.n c.args.arcs.now c.from.result c.largest.result c.from.ensures c.largest.ensures.value in
    sunk_are_potentials c.args.n c.args.arcs.now c.args.potentials.now c.sink.new.potentials c.deepest-deepest.result _ c.requires.arcs c.requires.potentials c.sink.ensures.len c.sink.ensures.each c.deepest-deepest.ensures.each (omega arith)
