use Rattle.std.proofs.Common.{ℤ, FitsSigned, List, of_z, rules, subst, sym, to_z, w64}
use Rattle.std.proofs.lemmas.Int.{to_z-of_z}
use Rattle.th_changes.specs.Kept.{IsKept}
use Rattle.th_changes.proofs.ReroutedLemmas.{closed_walk}
use Rattle.th_changes.proofs.rerouting.Rerouted.closed.Goals as goal

pub returns : goal.returns
returns c =
    let own = c.args.self.now in
    let case = own.case.now in
    let survey = case.network.now in
    let lost_fits : FitsSigned w64 own.lost = search rules in
    subst (λ (flows : List ℤ). IsKept survey case.cost flows (to_z w64 (of_z w64 own.lost))) (sym c.deref.ensures.value)
    (subst (IsKept survey case.cost own.flows.items) (sym (to_z-of_z w64 own.lost lost_fits))
    (closed_walk survey case.cost own.flows.items own.lost own.start own.at own.amount own.rerouted c.if-self.false))
