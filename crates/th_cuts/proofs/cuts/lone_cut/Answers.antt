use Rattle.std.proofs.Common.{sym, ◌∙◌, arith}
use Rattle.th_cuts.proofs.NearLemmas.{all_but_apart, all_but_weighs, alone_apart, alone_weighs}
use Rattle.th_cuts.proofs.cuts.lone_cut.Goals as goal

pub returns-then-most-lone : goal.returns-then-most-lone
returns-then-most-lone c =
    let graph = c.args.graph.now in
    let found = c.in_ok-side.ensures in
    let side = c.in_ok-side.side.items in
    record {
      each = found.each;
      apart = alone_apart graph.vertices graph.edges.items c.args.lone.now graph.graph.ends c.requires.weighed.weights c.args.source c.requires.weighed.pair.first side c.args.sink c.requires.weighed.pair.second (λ e. c.requires.weighed.pair.apart (sym e)) found.side;
      weighs = alone_weighs graph.vertices graph.edges.items c.args.lone.now graph.graph.ends c.requires.weighed.weights c.args.source c.requires.weighed.pair.first side found.side ∙ sym c.if-most-lone.true;
      least = c.requires.least;
    }

pub returns : goal.returns
returns c =
    let graph = c.args.graph.now in
    let found = c.in_ok-side-2.ensures in
    let side = c.in_ok-side-2.side.items in
    let is = c.requires.weighed.lesser in
    let not = c.if-most-lone.false in
    let weighs = all_but_weighs graph.vertices graph.edges.items c.args.lone.now graph.graph.ends c.requires.weighed.weights c.args.sink c.requires.weighed.pair.second side found.side in
    record {
      each = found.each;
      apart = all_but_apart graph.vertices graph.edges.items c.args.lone.now graph.graph.ends c.requires.weighed.weights c.args.sink c.requires.weighed.pair.second side c.args.source c.requires.weighed.pair.first c.requires.weighed.pair.apart found.side;
      weighs = omega arith;
      least = c.requires.least;
    }
