use Rattle.std.proofs.Common.{◌≡◌, ◌∙◌, Option, subst}
use Rattle.th_explain.specs.Explained.{IsAtLeast}
use Rattle.th_explain.specs.declared.freed.Freed.{Freed}
use Rattle.th_explain_rows.specs.Inside.Passing.{IsPassedOr}
use Rattle.th_explain_rows.specs.declared.finder.Misfit.{Misfit}
use Rattle.th_explain_rows.proofs.finder.Finder.look_at_limit.Goals as goal

pub returns-in-None-clause-found : goal.returns-in-None-clause-found
returns-in-None-clause-found c = λ freed passes.
    let misfit : Misfit = c.args.self.now.misfit in
    let candidate = c.args.candidate.now in
    let more = c.next-more.result in
    let same : c.is_shown-2.new.self.misfit ≡ misfit = c.if-is_shown-2.ensures.misfit ∙ c.if-is_shown.ensures.misfit in
    let found = subst (λ (own : Misfit). IsPassedOr own.case.now.network.now own.limit (IsAtLeast more) candidate c.in_ok-freed.field-0) same c.in_ok-freed.ensures.found in
    let none = subst (λ (own : Option Freed). IsPassedOr misfit.case.now.network.now misfit.limit (IsAtLeast more) candidate own) c.in-None.is found in
    c.next-more.ensures freed.left (none freed passes)
