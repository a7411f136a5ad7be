use Rattle.std.proofs.Common.{◌≡◌, ℕ, ap, subst, sym}
use Rattle.th_changes.specs.Lines.{IsLine}
use Rattle.th_changes.specs.declared.cases.Case.{Case}
use Rattle.th_explain.proofs.sieve.Sieve.is_best_left.Goals as goal

pub returns-in-Some-clause-left : goal.returns-in-Some-clause-left
returns-in-Some-clause-left c holds =
    let number = c.args.number.now in
    let case : Case = c.args.self.now.case.now in
    let cost : c.turned.new.self.case.now.cost ≡ case.cost = ap (λ (own : Case). own.cost) c.turned.ensures.case in
    c.leave_at_least.ensures c.if-leave_at_least.true case.network.now number
    (subst (λ (cost : ℕ). IsLine case.network.now number cost c.in-Some.turned) (sym cost) c.in-Some.ensures.line)
    (subst (λ (cost : ℕ). IsLine case.network.now number cost c.args.given.now) (sym cost) c.requires)
