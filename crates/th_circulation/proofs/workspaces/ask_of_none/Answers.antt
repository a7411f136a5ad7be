use Rattle.std.proofs.Common.{◌≡◌, ◌+◌, ℕ, List, ap, ◌∙◌, subst, arith}
use Rattle.th_search.specs.Answers.{IsAnswer}
use Rattle.th_search.specs.declared.arcs.Arc.{Arc}
use Rattle.th_circulation.proofs.NoArcs.{none_named}
use Rattle.th_circulation.proofs.workspaces.ask_of_none.Goals as goal

pub times-preserved : goal.times-preserved
times-preserved g c =
    let none = none_named c.args.vertices c.in_ok-search.field-0 (subst (λ (arcs : List Arc). IsAnswer c.args.vertices arcs c.in_ok-search.field-0) c.new-none.ensures.items c.in_ok-search.ensures.answer) in
    let cycles : g.S.Search.cycles c.search.new.self ≡ g.S.Search.cycles c.times.search + 0 = c.in_ok-search.ensures.cycles ∙ ap (λ (n : ℕ). g.S.Search.cycles c.times.search + n) none in
    let calls = c.in_ok-search.ensures.calls in
    let refusals = c.in_ok-search.ensures.refusals in
    (omega arith, omega arith, omega arith)
