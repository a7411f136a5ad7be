use Rattle.std.proofs.Common.{ℤ, of_z, rules, subst, sym, to_z, w64, FitsSigned, arith}
use Rattle.std.proofs.lemmas.Int.{fits_signed_from_abs, to_z-of_z}
use Rattle.std.proofs.Math.ListN.{set}
use Rattle.th_changes.specs.Rerouted.{IsRerouted}
use Rattle.th_changes.proofs.ReroutedLemmas.{stepped}
use Rattle.th_changes.proofs.rerouting.Rerouted.step.Goals as goal

pub invariant_of-self : goal.invariant_of-self
invariant_of-self c =
    let own = c.args.self.now in
    let next = c.in-Some.field-0 in
    let lost_fits : FitsSigned w64 c.in-Some.field-0.lost = search rules in
    let plain_flow = to_z-of_z w64 c.in-Some.field-0.flow (fits_signed_from_abs w64 c.in-Some.field-0.flow (omega (arith, c.in-Some.ensures.light))) in
    let plain_lost = to_z-of_z w64 c.in-Some.field-0.lost lost_fits in
    record {
      rerouted = subst (λ (flow : ℤ). IsRerouted c.args.self.now.case.now.network.now c.args.self.now.case.now.cost (set c.args.self.now.flows.items c.row-place.result flow) (to_z w64 (of_z w64 c.in-Some.field-0.lost)) c.args.self.now.start c.in-Some.field-0.at c.args.self.now.amount) (sym plain_flow)
          (subst (λ (lost : ℤ). IsRerouted c.args.self.now.case.now.network.now c.args.self.now.case.now.cost (set c.args.self.now.flows.items c.row-place.result c.in-Some.field-0.flow) lost c.args.self.now.start c.in-Some.field-0.at c.args.self.now.amount) (sym plain_lost)
          (stepped c.args.self.now.case.now.network.now c.args.self.now.case.now.cost c.args.self.now.flows.items c.args.self.now.lost c.args.self.now.start c.args.self.now.at c.args.self.now.amount c.row-place.result c.in-Some.field-0.flow c.in-Some.field-0.lost c.in-Some.field-0.at c.args.self.now.rerouted c.in-Some.ensures));
    }
