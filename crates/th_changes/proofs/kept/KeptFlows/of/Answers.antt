use Rattle.std.proofs.Common.{ℤ, FitsSigned, rules, subst, sym, w64}
use Rattle.std.proofs.lemmas.Int.{to_z-of_z}
use Rattle.th_changes.specs.Kept.{IsKept}
use Rattle.th_changes.proofs.ReroutedLemmas.{circulation_is_kept}
use Rattle.th_changes.proofs.kept.KeptFlows.of.Goals as goal

pub with_sums-requires : goal.with_sums-requires
with_sums-requires c =
    let case = c.args.case.now in
    let survey = case.network.now in
    let lost : ℤ = c.in-Some.lost in
    let fits : FitsSigned w64 c.in-Some.lost = search rules in
    let flows = c.args.flows.now in
    subst (IsKept survey case.cost flows) (sym (to_z-of_z w64 lost fits))
    (circulation_is_kept survey case.cost flows lost (c.in_ok-is_circulation.ensures.each c.if-not-branch.false) (c.in_ok-is_circulation.ensures.circulation c.if-not-branch.false) c.in-Some.ensures)
