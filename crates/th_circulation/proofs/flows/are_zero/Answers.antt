use Rattle.std.proofs.Common.{◌≡◌, ℤ, pos, All, FitsSigned, List, ap, get_or, rules, subst, sym, take, to_z, w64, ◌∙◌}
use Rattle.std.proofs.lemmas.Int.{to_z-of_z}
use Rattle.std.proofs.lemmas.List.{take_all}
use Rattle.std.proofs.lemmas.List.Elements.{All-more}
use Rattle.th_circulation.proofs.flows.are_zero.Goals as goal

pub loop-balance-preserved : goal.loop-balance-preserved
loop-balance-preserved c =
    let balances : List ℤ = c.args.balances.now in
    let i = c.loop-balance.balance-index in
    let fits : FitsSigned w64 (get_or balances i (pos 0)) = search rules in
    All-more (λ balance. balance ≡ pos 0) balances i (pos 0) c.loop-balance-test.true c.loop-balance.invariant
    (sym (to_z-of_z w64 (get_or balances i (pos 0)) fits) ∙ ap (to_z w64) c.if-balance-ne0.false)

pub returns : goal.returns
returns c holds = subst (All (λ balance. balance ≡ pos 0)) (take_all c.loop-balance.balance-index c.args.balances.now c.loop-balance-test.false) c.loop-balance.invariant
