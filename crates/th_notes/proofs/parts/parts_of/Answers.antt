use Rattle.std.proofs.Common.{◌∷◌, [], ◌++◌, ◌+◌, length, ap, sym, ◌∙◌, take, arith}
use Rattle.std.specs.List.{range_with_len}
use Rattle.std.proofs.lemmas.List.{map-id}
use Rattle.std.proofs.lemmas.List.FromFn.{map-range_with_len_more}
use Rattle.th_notes.proofs.PartLemmas.{length-parts}
use Rattle.th_notes.proofs.parts.parts_of.Goals as goal

pub loop-place-preserved : goal.loop-place-preserved
loop-place-preserved c =
    let n = c.loop-place.place in
    c.in_ok-push.ensures.items
    ∙ ap (λ own. own ++ n ∷ []) (c.loop-place.invariant ∙ sym (map-id (range_with_len 0 n)))
    ∙ sym (map-range_with_len_more (λ k. k) 0 n n (omega arith))
    ∙ map-id (range_with_len 0 (n + 1))

pub join-requires-clause-station : goal.join-requires-clause-station
join-requires-clause-station c =
    let below = c.requires c.loop-station.station-index (0, 0) (omega (arith, c.loop-station-test.true)) in
    omega (arith, below.0, ap length c.deref_mut.ensures.value, ap length c.loop-station.invariant, length-parts c.args.count (take c.loop-station.station-index c.args.ends.now))

pub join-requires-clause-target : goal.join-requires-clause-target
join-requires-clause-target c =
    let below = c.requires c.loop-station.station-index (0, 0) (omega (arith, c.loop-station-test.true)) in
    omega (arith, below.1, ap length c.deref_mut.ensures.value, ap length c.loop-station.invariant, length-parts c.args.count (take c.loop-station.station-index c.args.ends.now))
