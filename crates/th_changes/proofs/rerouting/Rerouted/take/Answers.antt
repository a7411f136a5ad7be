use Rattle.std.proofs.Common.{◌≡◌, ℤ, FitsSigned, ◌++◌, List, drop, length, of_z, rules, subst, sym, take, to_z, w64, arith}
use Rattle.std.proofs.lemmas.Int.{to_z-of_z}
use Rattle.std.proofs.lemmas.List.{take_at}
use Rattle.th_changes.specs.Kept.{IsKept}
use Rattle.th_changes.specs.Rerouted.{IsRerouted}
use Rattle.th_changes.specs.declared.cases.Case.{Case}
use Rattle.th_changes.proofs.ReroutedLemmas.{walk_at_first}
use Rattle.th_changes.proofs.rerouting.Rerouted.take.Goals as goal

pub invariant_of-self : goal.invariant_of-self
invariant_of-self c =
    let own = c.args.self.now in
    let kept = c.args.kept.now in
    let case = own.case.now in
    let flows : List ℤ = c.write_flows.new.flows in
    let rest : List ℤ = drop (length flows) own.flows.items in
    let lost_fits : FitsSigned w64 kept.lost = search rules in
    let is_kept : IsKept case.network.now case.cost flows kept.lost = subst (λ (own : Case). IsKept own.network.now own.cost flows kept.lost) c.requires c.write_flows.ensures in
    let rerouted = walk_at_first case.network.now case.cost flows kept.lost is_kept in
    let each = is_kept.each_flow.each in
    let was = own.rerouted.each_flow.each in
    let long : length flows ≡ own.flows.len = omega (arith, each, was, own.flows.ok.0) in
    record {
      rerouted = subst (λ (flows : List ℤ). IsRerouted case.network.now case.cost flows (to_z w64 (of_z w64 kept.lost)) 0 0 0) (sym (take_at flows rest own.flows.len long))
          (subst (λ (lost : ℤ). IsRerouted case.network.now case.cost flows lost 0 0 0) (sym (to_z-of_z w64 kept.lost lost_fits)) rerouted);
    }
