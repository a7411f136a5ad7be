use Rattle.std.proofs.Common.{◌≡◌, rules, subst, sym, arith}
use Rattle.std.proofs.lemmas.List.Elements.{All-get_or}
use Rattle.th_changes.specs.declared.numbers.Number.{Number}
use Rattle.th_explain_rows.specs.Inside.Passing.{IsMostOf}
use Rattle.th_explain_rows.specs.declared.finder.Whole.{Whole}
use Rattle.th_explain_rows.proofs.finder.Finder.known.Goals as goal

pub returns-then-eq : goal.returns-then-eq
returns-then-eq c =
    let survey = c.args.self.now.misfit.case.now.network.now in
    let own : Whole = c.index.result.now in
    let same : own.number ≡ c.args.whole.now = search rules in
    subst (λ (number : Number). IsMostOf survey number own.left) same
    (subst (λ (own : Whole). IsMostOf survey own.number own.left) (sym c.index.ensures)
    (All-get_or (λ (own : Whole). IsMostOf survey own.number own.left) c.args.self.now.wholes.items _ own (omega (arith, c.len-count.ensures, c.loop-k-test.true)) c.args.self.now.most))
