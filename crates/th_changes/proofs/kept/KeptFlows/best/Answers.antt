use Rattle.std.proofs.Common.{ℤ, pos, List, subst, sym}
use Rattle.th_changes.specs.Kept.{IsKept}
use Rattle.th_changes.proofs.kept.KeptFlows.best.Goals as goal

pub with_sums-requires : goal.with_sums-requires
with_sums-requires c =
    let case = c.args.case.now in
    subst (λ (flows : List ℤ). IsKept case.network.now case.cost flows (pos 0)) (sym c.flows.ensures) case.circulate
