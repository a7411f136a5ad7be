use Rattle.std.proofs.Common.{◌∙◌, ℕ, Bool, List, None, Option, ap, map, subst, sym}
use Rattle.std.specs.List.{AllZip, enumerate_from}
use Rattle.th_explain.specs.Explained.{IsAtLeast}
use Rattle.th_explain.specs.declared.freed.Freed.{Freed}
use Rattle.th_explain_rows.specs.Inside.Passing.{IsFinding, IsMildIf, IsPassedOrBehind, freed_of, is_mild}
use Rattle.th_explain_rows.specs.declared.finder.Misfit.{Misfit}
use Rattle.th_explain_rows.proofs.PassLemmas.{all_freed_pass, all_mild_if, placed}
use Rattle.th_explain_rows.proofs.passing.passed_before_cutoff.Goals as goal

-- where so few pass that nothing is left out
pub returns-clause-found : goal.returns-clause-found
returns-clause-found g c =
    let misfit : Misfit = c.args.finder.now.misfit in
    let survey = misfit.case.now.network.now in
    let candidates = c.args.candidates.now in
    let found = c.in_ok-found.found in
    subst (λ (freed : List (Option Freed)). AllZip (IsPassedOrBehind survey misfit.limit None) (enumerate_from 0 candidates) freed) (sym (c.in_ok-freed-in-None.ensures ∙ ap (map freed_of) c.deref-in-None.ensures.value))
    (placed survey misfit.limit None (IsAtLeast None) 0 candidates (map freed_of found.all.items) (λ k left later none. none)
    (all_freed_pass survey misfit.limit None candidates found.all.items
    (subst (λ (least : Option ℕ). AllZip (IsFinding survey misfit.limit least) candidates found.all.items) c.in-None.is
    (subst (λ (own : Misfit). AllZip (IsFinding own.case.now.network.now own.limit found.least) candidates found.all.items) c.in_ok-known.ensures.misfit c.in_ok-found.ensures.found))))

pub returns-clause-mild : goal.returns-clause-mild
returns-clause-mild g c =
    let misfit : Misfit = c.args.finder.now.misfit in
    let survey = misfit.case.now.network.now in
    let candidates = c.args.candidates.now in
    let found = c.in_ok-found.found in
    subst (λ (mild : List Bool). AllZip (IsMildIf survey misfit.limit None) (enumerate_from 0 candidates) mild) (sym (c.in_ok-mild-in-None.ensures ∙ ap (map is_mild) c.deref-in-None-2.ensures.value))
    (all_mild_if survey misfit.limit None None 0 candidates found.all.items (λ place left none. none)
    (subst (λ (least : Option ℕ). AllZip (IsFinding survey misfit.limit least) candidates found.all.items) c.in-None.is
    (subst (λ (own : Misfit). AllZip (IsFinding own.case.now.network.now own.limit found.least) candidates found.all.items) c.in_ok-known.ensures.misfit c.in_ok-found.ensures.found)))
