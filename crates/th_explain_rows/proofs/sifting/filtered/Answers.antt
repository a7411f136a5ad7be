use Rattle.std.proofs.Common.{◌≡◌, ◌∙◌, ℕ, ℤ, FitsSigned, List, None, Option, Some, ap, of_z, rules, subst, sym, to_z, w64}
use Rattle.std.proofs.lemmas.Int.{to_z-of_z}
use Rattle.std.specs.List.{AllZip, enumerate_from}
use Rattle.th_explain.specs.declared.freed.Freed.{Freed}
use Rattle.th_explain_rows.specs.Inside.Sifting.{IsSiftedOrBehind, least_left}
use Rattle.th_explain_rows.specs.Rows.{IsBestBeyond, sifting}
use Rattle.th_explain_rows.specs.declared.finder.Misfit.{Misfit}
use Rattle.th_explain_rows.proofs.SiftLemmas.{best_of, none_sifted}
use Rattle.th_explain_rows.proofs.sifting.filtered.Goals as goal

pub returns-in_ok-freed-in-Some-clause-best : goal.returns-in_ok-freed-in-Some-clause-best
returns-in_ok-freed-in-Some-clause-best g c =
    let misfit : Misfit = c.args.finder.now.misfit in
    let survey = misfit.case.now.network.now in
    let found : List (Option Freed) = c.args.found.freed.items in
    let least : least_left found ≡ Some c.in-Some.least = sym (ap least_left c.deref.ensures.value) ∙ sym c.least_left-best.ensures ∙ c.in-Some.is in
    subst (IsBestBeyond survey misfit.limit c.args.candidates.now) least
    (best_of survey misfit.limit c.freed_is_one.ensures c.args.found.cutoff c.args.candidates.now found c.requires.found c.requires.settled)

pub returns-in-None-clause-best : goal.returns-in-None-clause-best
returns-in-None-clause-best g c =
    let misfit : Misfit = c.args.finder.now.misfit in
    let survey = misfit.case.now.network.now in
    let found : List (Option Freed) = c.args.found.freed.items in
    let least : least_left found ≡ c.least_left-best.result = sym (ap least_left c.deref.ensures.value) ∙ sym c.least_left-best.ensures in
    subst (IsBestBeyond survey misfit.limit c.args.candidates.now) least
    (best_of survey misfit.limit c.freed_is_one.ensures c.args.found.cutoff c.args.candidates.now found c.requires.found c.requires.settled)

pub returns-in-None-clause-found : goal.returns-in-None-clause-found
returns-in-None-clause-found g c =
    let misfit : Misfit = c.args.finder.now.misfit in
    let survey = misfit.case.now.network.now in
    let found : List (Option Freed) = c.args.found.freed.items in
    let numbered = enumerate_from 0 c.args.candidates.now in
    let fits : FitsSigned w64 misfit.limit = search rules in
    subst (λ (best : Option ℕ). AllZip (IsSiftedOrBehind survey (sifting (to_z w64 (of_z w64 misfit.limit)) best) c.args.found.cutoff) numbered found) (sym c.in-None.is)
    (subst (λ (limit : ℤ). AllZip (IsSiftedOrBehind survey (sifting limit None) c.args.found.cutoff) numbered found) (sym (to_z-of_z w64 misfit.limit fits))
    (none_sifted survey misfit.limit c.args.found.cutoff numbered found c.requires.found))
