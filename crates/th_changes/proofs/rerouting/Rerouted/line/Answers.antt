use Rattle.std.proofs.Common.{◌≡◌, ℤ, List, ap, of_z, rules, subst, sym, to_z, w64, FitsSigned, ◌∙◌, arith}
use Rattle.std.proofs.lemmas.Int.{fits_signed_from_abs, to_z-of_z}
use Rattle.th_changes.specs.Flows.{net}
use Rattle.th_changes.specs.Kept.{IsKept}
use Rattle.th_changes.proofs.ReroutedLemmas.{closed_walk, line_of}
use Rattle.th_changes.proofs.rerouting.Rerouted.line.Goals as goal

pub returns : goal.returns
returns c =
    let own = c.args.self.now in
    let case = own.case.now in
    let survey = case.network.now in
    let number = c.args.number.now in
    let flows : List ℤ = own.flows.items in
    let small = c.net_in.ensures.small in
    let plain = to_z-of_z w64 c.net_in.result (fits_signed_from_abs w64 c.net_in.result (omega (arith, small))) in
    let flowing : to_z w64 (of_z w64 c.net_in.result) ≡ net number survey flows = plain ∙ c.net_in.ensures.net ∙ ap (λ (flows : List ℤ). net number survey flows) c.deref.ensures.value in
    let lost_fits : FitsSigned w64 own.lost = search rules in
    let lost = to_z-of_z w64 own.lost lost_fits in
    line_of survey number case.cost flows _
    (subst (IsKept survey case.cost flows) (sym lost) (closed_walk survey case.cost flows own.lost own.start own.at own.amount own.rerouted c.if-self.false))
    flowing
