use Rattle.std.proofs.Common.{ℤ, pos, List, subst, sym, ◌∙◌}
use Rattle.th_changes.specs.Rerouted.{IsRerouted}
use Rattle.th_changes.proofs.ReroutedLemmas.{walk_at_first}
use Rattle.th_changes.proofs.rerouting.Rerouted.of.Goals as goal

pub invariant_of-result : goal.invariant_of-result
invariant_of-result c = record {
  rerouted = subst (λ (flows : List ℤ). IsRerouted c.args.case.now.network.now c.args.case.now.cost flows (pos 0) 0 0 0) (sym (c.in_ok-flows.ensures.items ∙ c.flows.ensures))
      (walk_at_first c.args.case.now.network.now c.args.case.now.cost c.args.case.now.best.now.flows (pos 0) c.args.case.now.circulate);
}
