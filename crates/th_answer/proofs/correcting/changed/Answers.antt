use Rattle.std.proofs.Common.{◌≡◌, ◌∙◌, ℤ, FitsSigned, List, ap, of_z, refl, subst, sym, to_z, unsigned_abs, w64, arith}
use Rattle.std.proofs.lemmas.Int.{fits_signed_from_abs, to_z-of_z}
use Rattle.th_changes.specs.Tilted.{tilted}
use Rattle.th_changes.proofs.TiltLemmas.{reach_small}
use Rattle.th_circulation.specs.Extremes.{AreLowest}
use Rattle.th_network.specs.Networks.{AreAtPoints, Survey, at_points_of, points_of}
use Rattle.th_answer.specs.Inside.Raised.{AreRaised}
use Rattle.th_answer.specs.Inside.Readjusted.{IsAdjusted}
use Rattle.th_answer.specs.declared.correcting.Readjusted.{Readjusted}
use Rattle.th_answer.proofs.CorrectedLemmas.{changed_with}
use Rattle.th_answer.proofs.correcting.changed.Goals as goal

pub raised-requires-clause-growth : goal.raised-requires-clause-growth
raised-requires-clause-growth c =
    let growth : ℤ = c.in-Some.growth in
    let small = reach_small c.args.number.now c.args.mending.now.case.now.network.now.observations in
    let fits : FitsSigned w64 growth = fits_signed_from_abs w64 growth (omega (arith, c.in-Some.ensures.within, small)) in
    omega (arith, ap unsigned_abs (to_z-of_z w64 growth fits), c.in-Some.ensures.within, small)

pub marked-requires-clause-at_points : goal.marked-requires-clause-at_points
marked-requires-clause-at_points c =
    subst (λ (own : Survey). AreAtPoints own c.deref.result.now) (sym c.in_ok-own.ensures)
    (subst (AreAtPoints (tilted c.args.number.now (to_z w64 (of_z w64 c.in-Some.growth)) c.args.mending.now.case.now.network.now)) (sym c.deref.ensures.value) c.in_ok-low.ensures.lowest.at_points)

pub marked-requires-clause-lowest : goal.marked-requires-clause-lowest
marked-requires-clause-lowest c =
    let tilts : Survey = tilted c.args.number.now (to_z w64 (of_z w64 c.in-Some.growth)) c.args.mending.now.case.now.network.now in
    subst (λ (own : Survey). AreLowest own (at_points_of own c.deref.result.now)) (sym c.in_ok-own.ensures)
    (subst (λ (low : List ℤ). AreLowest tilts (at_points_of tilts low)) (sym c.deref.ensures.value) c.in_ok-low.ensures.lowest.lowest)

pub returns-clause-own : goal.returns-clause-own
returns-clause-own c = λ entries.
    let survey = c.args.mending.now.case.now.network.now in
    let number = c.args.number.now in
    let growth : ℤ = c.in-Some.growth in
    let own : Survey = c.in_ok-own.own in
    let found : Readjusted = c.in_ok-heights.field-0 in
    let listed : Readjusted = record { heights = c.in_ok-heights-2.heights; marks = c.in_ok-heights.field-0.marks } in
    let fits : FitsSigned w64 growth = fits_signed_from_abs w64 growth (omega (arith, c.in-Some.ensures.within, reach_small number survey.observations)) in
    let plain : to_z w64 (of_z w64 growth) ≡ growth = to_z-of_z w64 growth fits in
    let items : c.deref-2.result.now ≡ found.heights.items = c.deref-2.ensures.value in
    let adjusted : IsAdjusted own c.args.limit found = subst (λ (limit : ℤ). IsAdjusted own limit found) (to_z-of_z w64 c.args.limit c.ranges.limit) c.in_ok-heights.ensures in
    let lifts : AreRaised number growth (points_of own) (at_points_of own found.heights.items) listed.heights.items =
    subst (λ (low : List ℤ). AreRaised number growth (points_of own) (at_points_of own low) listed.heights.items) items
    (subst (λ (x : ℤ). AreRaised number x (points_of own) (at_points_of own c.deref-2.result.now) listed.heights.items) plain c.in_ok-heights-2.ensures.raised) in
    changed_with survey entries c.args.limit number c.args.values.now growth c.in-Some.ensures own (c.in_ok-own.ensures ∙ ap (λ (x : ℤ). tilted number x survey) plain) found adjusted listed lifts refl
