use Rattle.std.proofs.Common.{ℤ, FitsSigned, List, rules, subst, sym, w64}
use Rattle.std.proofs.lemmas.Int.{to_z-of_z}
use Rattle.th_changes.specs.Inside.Sums.{AreSums, flows_of}
use Rattle.th_changes.specs.Kept.{IsKept}
use Rattle.th_changes.proofs.SumLemmas.{flows_of_sums}
use Rattle.th_changes.proofs.kept.KeptFlows.with_sums.Goals as goal

pub invariant_of-result : goal.invariant_of-result
invariant_of-result c =
    let case = c.args.case.now in
    let flows : List ℤ = c.args.flows.now in
    let sums : List ℤ = c.in_ok-sums.sums.items in
    let fits : FitsSigned w64 c.args.lost = search rules in
    let lost = sym (to_z-of_z w64 c.args.lost fits) in
    let same = flows_of_sums flows sums c.in_ok-sums.ensures in
    record {
      are_sums = subst (λ (flows : List ℤ). AreSums flows sums) same c.in_ok-sums.ensures;
      kept = subst (λ (lost : ℤ). IsKept case.network.now case.cost (flows_of sums) lost) lost
          (subst (λ (flows : List ℤ). IsKept case.network.now case.cost flows c.args.lost) same c.requires);
    }
