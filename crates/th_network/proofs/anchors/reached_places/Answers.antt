use Rattle.std.proofs.Common.{arith}
use Rattle.th_network.proofs.AnchorLemmas.{reaching_first, reaching_next, reached_all, waiting_within, neighbours_within}
use Rattle.th_network.proofs.anchors.reached_places.Goals as goal

pub loop-place-init : goal.loop-place-init
loop-place-init c = reaching_first _ _ _ _ c.in_ok-marks.ensures

pub loop-place-preserved : goal.loop-place-preserved
loop-place-preserved c =
    reaching_next _ _ _ _ _ c.in-Some.place _ _ _ _ _ c.in-Some.ensures.items c.in_ok-neighbours.ensures c.of_place.ensures c.in_ok-mark_all.ensures.added c.in_ok-mark_all.ensures.spreads c.loop-place.invariant

pub returns : goal.returns
returns c =
    let waiting = c.loop-place.marks.waiting in
    record {
      size = c.loop-place.invariant.size;
      reached = reached_all _ _ _ _ (omega (arith, waiting.ok.0, c.in_default.ensures.cases.0)) c.loop-place.invariant;
    }

pub of_place-requires : goal.of_place-requires
of_place-requires c =
    omega (arith, waiting_within _ _ _ _ _ _ c.in-Some.ensures.items c.loop-place.invariant, c.in_ok-neighbours.ensures.size)

pub mark_all-requires : goal.mark_all-requires
mark_all-requires c = λ k d within.
    omega (arith, neighbours_within _ _ _ _ _ _ c.requires c.in_ok-neighbours.ensures c.of_place.ensures k d within, c.loop-place.invariant.size)
