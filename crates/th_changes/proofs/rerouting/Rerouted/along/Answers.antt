use Rattle.std.proofs.Common.{◌<◌, ℤ, List, length, of_z, rules, subst, sym, to_z, w64, FitsSigned, arith}
use Rattle.std.proofs.lemmas.Int.{fits_signed_from_abs, ints, to_z-of_z}
use Rattle.th_network.specs.Networks.{Survey}
use Rattle.th_changes.specs.Rerouted.{IsNext}
use Rattle.th_changes.proofs.ReroutedLemmas.{next_along}
use Rattle.th_changes.proofs.rerouting.Rerouted.along.Goals as goal

pub returns : goal.returns
returns c =
    let survey : Survey = c.args.self.now.case.now.network.now in
    let flows : List ℤ = c.args.self.now.flows.items in
    let own = c.in_ok-flow.ensures in
    let each = c.args.self.now.rerouted.each_flow.each in
    let within : c.args.place < length survey.observations = omega (arith, each, c.requires) in
    let link = c.link-link.result in
    let diff_fits : FitsSigned w64 c.link-link.result.diff = search rules in
    let lost_fits : FitsSigned w64 c.in_ok-flow.lost = search rules in
    let plain_flow = to_z-of_z w64 c.in_ok-flow.flow (fits_signed_from_abs w64 c.in_ok-flow.flow (omega (arith, own.light))) in
    let plain_lost = to_z-of_z w64 c.in_ok-flow.lost lost_fits in
    let amount = c.from.ensures in
    subst (λ (flow : ℤ). IsNext survey flows c.args.self.now.lost c.args.self.now.at c.args.self.now.amount c.args.place flow (to_z w64 (of_z w64 c.in_ok-flow.lost)) c.link-link.result.head) (sym plain_flow)
    (subst (λ (lost : ℤ). IsNext survey flows c.args.self.now.lost c.args.self.now.at c.args.self.now.amount c.args.place c.in_ok-flow.flow lost c.link-link.result.head) (sym plain_lost)
    (next_along survey flows c.args.self.now.lost c.args.self.now.at c.args.self.now.amount c.args.place c.in_ok-flow.flow c.in_ok-flow.lost _ _ c.link-link.result within own.bounded own.light own.flow own.lost
    (omega (arith, ints, amount)) (to_z-of_z w64 c.link-link.result.diff diff_fits) c.link-link.ensures c.if-link-self.false))
