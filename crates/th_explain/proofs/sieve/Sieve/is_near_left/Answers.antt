use Rattle.std.proofs.Common.{◌≡◌, ◌∙◌, ℕ, ap, subst, sym}
use Rattle.th_changes.specs.Lines.{IsLine}
use Rattle.th_changes.specs.declared.cases.Case.{Case}
use Rattle.th_explain.proofs.sieve.Sieve.is_near_left.Goals as goal

pub returns-in-Some-turned_near-clause-left : goal.returns-in-Some-turned_near-clause-left
returns-in-Some-turned_near-clause-left c holds =
    let number = c.args.number.now in
    let case : Case = c.args.self.now.case.now in
    let cost : c.turned_near.new.self.case.now.cost ≡ case.cost = ap (λ (own : Case). own.cost) (c.turned_near.ensures.case ∙ c.draw_near.ensures) in
    let turned = subst (λ (own : Case). IsLine own.network.now number own.cost c.in-Some-turned_near.turned) c.draw_near.ensures c.in-Some-turned_near.ensures.line in
    c.leave_at_least.ensures c.if-leave_at_least.true case.network.now number
    (subst (λ (cost : ℕ). IsLine case.network.now number cost c.in-Some-turned_near.turned) (sym cost) turned)
    (subst (λ (cost : ℕ). IsLine case.network.now number cost c.args.given.now) (sym cost) c.requires)
