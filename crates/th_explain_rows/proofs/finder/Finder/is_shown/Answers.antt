use Rattle.std.proofs.Common.{◌≡◌, ◌∙◌, inl, inr, ℕ, ℤ, FitsSigned, ap, of_z, rules, subst, sym, to_z, w64}
use Rattle.std.proofs.lemmas.Int.{to_z-of_z}
use Rattle.th_changes.specs.declared.cases.Case.{Case}
use Rattle.th_changes.specs.declared.numbers.Number.{Number}
use Rattle.th_explain.specs.Explained.{Explains}
use Rattle.th_explain_rows.specs.Rows.{limit_size}
use Rattle.th_explain_rows.proofs.finder.Finder.is_shown.Goals as goal

pub returns-clause-shown : goal.returns-clause-shown
returns-clause-shown c is freed passes =
    let own = c.args.self.now in
    let limit : ℤ = c.args.limit in
    let fits : FitsSigned w64 c.args.limit = search rules in
    let size : c.limit_size-size.result ≡ limit_size limit = c.limit_size-size.ensures ∙ ap limit_size (to_z-of_z w64 limit fits) in
    let same : own.mending.sieve.case.now ≡ own.misfit.case.now = own.mending.same ∙ own.same in
    let shown = c.shown.ensures.shown is freed
    (subst (λ (case : Case). Explains case.network.now c.limit_size-size.result c.number.result freed) (sym same)
    (subst (λ (size : ℕ). Explains own.misfit.case.now.network.now size c.number.result freed) (sym size)
    (subst (λ (number : Number). Explains own.misfit.case.now.network.now (limit_size limit) number freed) (sym c.number.ensures) passes.explains))) in
    elim (c.nearer-nearer.ensures freed.left shown) [
      | inl most ↦ most
      | inr more ↦ absurd (more passes.leads)
    ]
