use Rattle.std.proofs.Common.{◌<◌, ◌∙◌, length, ap, arith}
use Rattle.th_cuts.specs.Drains.{on_side}
use Rattle.th_reliability.specs.Blames.{blamed_weights}
use Rattle.th_reliability.specs.Inside.Sides.{names_beyond}
use Rattle.th_reliability.proofs.BlameLemmas.{blamed_here, blamed_long}
use Rattle.th_reliability.proofs.blames.blamed_of.Goals as goal

pub loop-i-preserved : goal.loop-i-preserved
loop-i-preserved c =
    let survey = c.args.network.now in
    let side = on_side c.args.side.now in
    let within : c.loop-i.i < length survey.observations = omega (arith, ap length c.observations-i-end.ensures.observations, c.loop-i-test.true) in
    let long = blamed_long survey c.args.mistaken.now (names_beyond survey side) c.requires.each in
    c.add.ensures (blamed_weights survey c.args.mistaken.now (names_beyond survey side)) (omega arith)
    (c.blamed_edge.ensures ∙ blamed_here survey c.args.edges.now c.requires.edges c.args.mistaken.now side c.loop-i.i c.requires.each within)
    c.loop-i.invariant
