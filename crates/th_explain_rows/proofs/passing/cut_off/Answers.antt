use Rattle.std.proofs.Common.{◌≡◌, ◌∙◌, ◌≤◌, inl, inr, ℕ, Bool, List, Option, Some, length, map, rules, subst, take, sym, arith}
use Rattle.std.proofs.lemmas.Bool.{cases_lt}
use Rattle.std.specs.List.{AllZip, enumerate_from}
use Rattle.th_explain.specs.Explained.{IsAtLeast}
use Rattle.th_explain.specs.declared.freed.Freed.{Freed}
use Rattle.th_explain_rows.specs.Inside.Passing.{IsFinding, IsMildIf, IsMore, IsPassedOr, IsPassedOrBehind, is_mild}
use Rattle.th_explain_rows.specs.Rows.{IsBehind}
use Rattle.th_explain_rows.specs.declared.finder.Misfit.{Misfit}
use Rattle.th_explain_rows.specs.declared.rows.Cutoff.{Cutoff}
use Rattle.th_explain_rows.proofs.PassLemmas.{all_freed_pass, all_mild_if, joined}
use Rattle.th_explain_rows.proofs.passing.cut_off.Goals as goal

-- numbers that leave at least as much, from the place of the cutoff on
from_place : (cutoff : Cutoff) (k left : ℕ) → cutoff.place ≤ k → cutoff.left ≤ left → IsBehind (Some cutoff) k left
from_place cutoff k left later least = elim (cases_lt cutoff.left left) [
  | inl more ↦ inl more
  | inr less ↦ inr (omega (arith, less, least), later)
]

pub returns-clause-found : goal.returns-clause-found
returns-clause-found g c =
    let misfit : Misfit = c.args.finder.now.misfit in
    let found = c.args.found.now in
    let first : List (Option Freed) = c.in_ok-freed.freed.items in
    let cutoff : Cutoff = record { left = c.args.left; place = c.len-place.result } in
    let place : length first ≡ cutoff.place = search rules in
    let ahead = subst (λ (least : Option ℕ). AllZip (IsPassedOr misfit.case.now.network.now misfit.limit (IsMore least)) (take (length first) found.candidates.now) first) c.requires.least c.in_ok-freed.ensures.first in
    let known : List (Option Freed) = c.deref.result.now in
    let all = subst (λ (freed : List (Option Freed)). AllZip (IsPassedOr misfit.case.now.network.now misfit.limit (IsAtLeast (Some c.args.left))) found.candidates.now freed) (sym {A = List (Option Freed)} (c.deref.ensures.value ∙ c.in_ok-known.ensures))
    (all_freed_pass misfit.case.now.network.now misfit.limit (Some c.args.left) found.candidates.now found.findings.now
    (subst (λ (least : Option ℕ). AllZip (IsFinding misfit.case.now.network.now misfit.limit least) found.candidates.now found.findings.now) c.requires.least c.requires.found)) in
    subst (AllZip (IsPassedOrBehind misfit.case.now.network.now misfit.limit (Some cutoff)) (enumerate_from 0 found.candidates.now)) (sym c.in_ok-add_others.ensures)
    (joined misfit.case.now.network.now misfit.limit (Some cutoff) (IsMore (Some c.args.left)) (IsAtLeast (Some c.args.left)) 0 (length first) found.candidates.now first known
    (λ k left more. inl more) (λ k left later least. from_place cutoff k left (omega (arith, later, place)) least) ahead all)

pub returns-clause-mild : goal.returns-clause-mild
returns-clause-mild g c =
    let misfit : Misfit = c.args.finder.now.misfit in
    let survey = misfit.case.now.network.now in
    let found = c.args.found.now in
    let cutoff : Cutoff = record { left = c.args.left; place = c.len-place.result } in
    subst (AllZip (IsMildIf survey misfit.limit (Some cutoff)) (enumerate_from 0 found.candidates.now)) (sym {A = List Bool} c.in_ok-mild.ensures)
    (all_mild_if survey misfit.limit (Some cutoff) (Some c.args.left) 0 found.candidates.now found.findings.now (λ place left more. inl more)
    (subst (λ (least : Option ℕ). AllZip (IsFinding survey misfit.limit least) found.candidates.now found.findings.now) c.requires.least c.requires.found))
