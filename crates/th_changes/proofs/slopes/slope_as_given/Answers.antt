use Rattle.std.proofs.Common.{◌≡◌, ℤ, pos, List, ap, of_z, subst, sym, to_z, w64, ◌∙◌, arith}
use Rattle.std.proofs.lemmas.Int.{fits_signed_from_abs, to_z-of_z}
use Rattle.th_network.specs.Networks.{at_points_of}
use Rattle.th_changes.specs.Flows.{net}
use Rattle.th_changes.specs.Slopes.{IsSlopedAt}
use Rattle.th_changes.proofs.ReroutedLemmas.{sloped_as_given}
use Rattle.th_changes.proofs.slopes.slope_as_given.Goals as goal

pub returns-clause-sloped : goal.returns-clause-sloped
returns-clause-sloped c =
    let case = c.args.case.now in
    let survey = case.network.now in
    let number = c.args.number.now in
    let flows : List ℤ = case.best.now.flows in
    let small = c.net_of.ensures.small in
    let plain = to_z-of_z w64 c.net_of.result (fits_signed_from_abs w64 c.net_of.result (omega (arith, small))) in
    let slope : to_z w64 (of_z w64 c.net_of.result) ≡ net number survey flows = plain ∙ c.net_of.ensures.net ∙ ap (λ (flows : List ℤ). net number survey flows) c.flows.ensures in
    subst (λ (slope : ℤ). IsSlopedAt survey number (pos 0) case.cost slope) (sym slope)
    (sloped_as_given survey number case.cost flows (at_points_of survey case.best.now.low) case.circulate case.keep case.least)
