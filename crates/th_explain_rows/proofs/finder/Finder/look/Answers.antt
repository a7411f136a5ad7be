use Rattle.std.proofs.Common.{◌≡◌, ◌∙◌, ℤ, FitsSigned, None, ap, of_z, refl, rules, subst, to_z, w64}
use Rattle.std.proofs.lemmas.Int.{to_z-of_z}
use Rattle.th_explain.specs.Explained.{IsAtLeast}
use Rattle.th_explain_rows.specs.Inside.Passing.{IsPassedOr}
use Rattle.th_explain_rows.specs.Rows.{half_of}
use Rattle.th_explain_rows.proofs.finder.Finder.look.Goals as goal

pub returns-then-is_shown-clause-found : goal.returns-then-is_shown-clause-found
returns-then-is_shown-clause-found c = λ freed passes.
    let survey = c.args.self.now.misfit.case.now.network.now in
    let limit : ℤ = c.args.self.now.misfit.limit in
    let fits : FitsSigned w64 limit = search rules in
    let own_fits : FitsSigned w64 c.half_of.result = search rules in
    let half : to_z w64 (of_z w64 c.half_of.result) ≡ half_of limit = to_z-of_z w64 c.half_of.result own_fits ∙ c.half_of.ensures ∙ ap half_of (to_z-of_z w64 limit fits) in
    let shown = subst (λ (limit : ℤ). IsPassedOr survey limit (IsAtLeast c.next-more.result) c.args.candidate.now None) half (c.if-is_shown.ensures.shown refl) in
    c.next-more.ensures freed.left (shown freed passes)
