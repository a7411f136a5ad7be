use Rattle.std.proofs.Common.{◌≡◌, ℤ, FitsSigned, ◌++◌, List, drop, length, of_z, rules, subst, sym, take, to_z, w64, arith}
use Rattle.std.proofs.lemmas.Int.{to_z-of_z}
use Rattle.std.proofs.lemmas.List.{take_at}
use Rattle.th_changes.specs.Inside.Sums.{AreSums, flows_of}
use Rattle.th_changes.specs.Kept.{IsKept}
use Rattle.th_changes.specs.declared.cases.Case.{Case}
use Rattle.th_changes.proofs.SumLemmas.{flows_of_sums}
use Rattle.th_changes.proofs.kept.KeptFlows.take.Goals as goal

pub invariant_of-self : goal.invariant_of-self
invariant_of-self c =
    let own = c.args.self.now in
    let case = own.case.now in
    let flows : List ℤ = c.in-Some.flows.now in
    let lost : ℤ = c.in-Some.lost in
    let lost_fits : FitsSigned w64 c.in-Some.lost = search rules in
    let is_kept : IsKept case.network.now case.cost flows lost = subst (λ (own : Case). IsKept own.network.now own.cost flows lost) c.requires c.in-Some.ensures in
    let each = is_kept.each_flow.each in
    let own_each = own.kept.each_flow.each in
    let own_long = own.are_sums.each in
    let made = c.sum_up.ensures.each in
    let sums : List ℤ = c.sum_up.new.sums in
    let rest : List ℤ = drop (length sums) own.sums.items in
    let long : length sums ≡ own.sums.len = omega (arith, each, own_each, own_long, made, own.sums.ok.0) in
    let all : sums ≡ take own.sums.len (sums ++ rest) = sym (take_at sums rest own.sums.len long) in
    let same = flows_of_sums flows sums c.sum_up.ensures in
    record {
      are_sums = subst (λ (sums : List ℤ). AreSums (flows_of sums) sums) all
          (subst (λ (flows : List ℤ). AreSums flows sums) same c.sum_up.ensures);
      kept = subst (λ (sums : List ℤ). IsKept case.network.now case.cost (flows_of sums) (to_z w64 (of_z w64 lost))) all
          (subst (λ (flows : List ℤ). IsKept case.network.now case.cost flows (to_z w64 (of_z w64 lost))) same
          (subst (IsKept case.network.now case.cost flows) (sym (to_z-of_z w64 lost lost_fits)) is_kept));
    }
