use Rattle.std.proofs.Common.{◌≡◌, ℕ, ℤ, List, ap, of_z, subst, sym, to_z, w64, ◌∙◌, arith}
use Rattle.std.proofs.lemmas.Int.{fits_signed_from_abs, to_z-of_z}
use Rattle.th_circulation.specs.Best.{IsBest}
use Rattle.th_network.specs.Networks.{AreOfObservations, Survey, at_points_of}
use Rattle.th_changes.specs.Flows.{net}
use Rattle.th_changes.specs.Freed.{cost_of}
use Rattle.th_changes.specs.Tilted.{tilted}
use Rattle.th_changes.specs.Slopes.{IsSlopedAt}
use Rattle.th_changes.proofs.SlopeLemmas.{as_many_flows, slope_of_best}
use Rattle.th_changes.proofs.slopes.slope_at.Goals as goal

pub net_of-requires : goal.net_of-requires
net_of-requires c =
    let survey = c.args.network.now in
    let number = c.args.number.now in
    let x : ℤ = to_z w64 (of_z w64 c.args.change) in
    let best = subst (λ (own : Survey). IsBest own c.in_ok-best.best) c.in_ok-own.ensures c.in_ok-best.ensures in
    subst (AreOfObservations survey) (sym c.flows.ensures) (as_many_flows survey number x c.in_ok-best.best.flows best.each_flow)

pub returns-clause-sloped : goal.returns-clause-sloped
returns-clause-sloped c =
    let survey = c.args.network.now in
    let number = c.args.number.now in
    let x : ℤ = to_z w64 (of_z w64 c.args.change) in
    let own : Survey = c.in_ok-own.own in
    let flows : List ℤ = c.in_ok-best.best.flows in
    let low : List ℤ = c.in_ok-best.best.low in
    let best = subst (λ (own : Survey). IsBest own c.in_ok-best.best) c.in_ok-own.ensures c.in_ok-best.ensures in
    let small = c.net_of.ensures.small in
    let plain = to_z-of_z w64 c.net_of.result (fits_signed_from_abs w64 c.net_of.result (omega (arith, small))) in
    let slope : to_z w64 (of_z w64 c.net_of.result) ≡ net number survey flows = plain ∙ c.net_of.ensures.net ∙ ap (λ (flows : List ℤ). net number survey flows) c.flows.ensures in
    let cost : c.in_ok-fit.fit.cost ≡ cost_of (tilted number x survey) (at_points_of (tilted number x survey) low) =
    c.in_ok-fit.ensures.cost ∙ ap (λ (low : List ℤ). cost_of own (at_points_of own low)) c.low.ensures ∙ ap (λ (own : Survey). cost_of own (at_points_of own low)) c.in_ok-own.ensures in
    subst (λ (slope : ℤ). IsSlopedAt survey number x c.in_ok-fit.fit.cost slope) (sym slope)
    (subst (λ (total : ℕ). IsSlopedAt survey number x total (net number survey flows)) (sym cost) (slope_of_best survey number x c.in_ok-best.best best))
