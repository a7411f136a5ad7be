use Rattle.std.proofs.Common.{◌++◌, ◌∷◌, [], ℤ, List, ap, map, sym, take, to_z, of_z, unsigned_abs, w64, ◌∙◌, arith}
use Rattle.std.proofs.lemmas.Int.{ints, to_z-of_z}
use Rattle.std.proofs.lemmas.List.{map_more, take_all}
use Rattle.th_observations.specs.Observed.{Observed}
use Rattle.th_changes.specs.Tilted.{tilted_observation}
use Rattle.th_changes.proofs.TiltLemmas.{reach_small, room_at}
use Rattle.th_changes.proofs.tilting.tilted_observations.Goals as goal

pub tilted_observation-requires-clause-change : goal.tilted_observation-requires-clause-change
tilted_observation-requires-clause-change c = omega (arith, ints, reach_small c.args.number.now c.args.observations.now)

pub tilted_observation-requires-clause-room : goal.tilted_observation-requires-clause-room
tilted_observation-requires-clause-room c =
    let same = ap unsigned_abs (to_z-of_z w64 c.args.change c.ranges.change) in
    room_at c.args.number.now (unsigned_abs (to_z w64 (of_z w64 c.args.change))) c.args.observations.now c.o-item.result c.loop-o.o-index c.requires.low (omega (arith, same)) c.loop-o-test.true c.o-item.is

pub loop-o-preserved : goal.loop-o-preserved
loop-o-preserved c =
    let tilt : Observed → Observed = tilted_observation c.args.number.now (to_z w64 (of_z w64 c.args.change)) in
    let observations : List Observed = c.args.observations.now in
    let i = c.loop-o.o-index in
    c.in_ok-push.ensures.items
    ∙ ap (λ (own : List Observed). own ++ c.tilted_observation.result ∷ []) c.loop-o.invariant
    ∙ ap (λ (o : Observed). map tilt (take i observations) ++ o ∷ []) (c.tilted_observation.ensures ∙ ap tilt c.o-item.is)
    ∙ sym (map_more tilt observations i c.o-item.result c.loop-o-test.true)

pub returns : goal.returns
returns c =
    let observations : List Observed = c.args.observations.now in
    c.loop-o.invariant
    ∙ ap (λ (own : List Observed). map (tilted_observation c.args.number.now (to_z w64 (of_z w64 c.args.change))) own) (take_all c.loop-o.o-index observations c.loop-o-test.false)
    ∙ ap (λ (x : ℤ). map (tilted_observation c.args.number.now x) observations) (to_z-of_z w64 c.args.change c.ranges.change)
