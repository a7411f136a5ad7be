-- The rows of numbers that pass.
use Rattle.std.proofs.Common.{◌≡◌, ◌∙◌, ℕ, Option, None, Some, ap, subst, sym}
use Rattle.std.specs.Prelude.{IfSome}
use Rattle.th_explain.specs.declared.freed.Freed.{Freed}
use Rattle.th_changes.specs.Freed.{IsFreed}
use Rattle.th_changes.specs.declared.numbers.Number.{Number}
use Rattle.th_explain_texts.specs.declared.rows.Row.{Row}
use Rattle.th_network.specs.Networks.{Survey}
use Rattle.th_numbers.specs.Candidates.{number_of}
use Rattle.th_numbers.specs.declared.candidates.Candidate.{Candidate}
use Rattle.th_explain_rows.specs.Inside.Passing.{IsAheadOrNone, IsRowOfFound}
use Rattle.th_explain_rows.specs.Inside.Sifting.{IsSiftedOrBehind}
use Rattle.th_explain_rows.specs.Rows.{IsBehind, IsRowOrBehind, Passes}
use Rattle.th_explain_rows.specs.declared.rows.Cutoff.{Cutoff}
use Rattle.th_explain_rows.specs.declared.rows.Filter.{Filter}

module _ (survey : Survey) (cost : ℕ) (filter : Filter) (cutoff : Option Cutoff) (place : ℕ) (candidate : Candidate) where
  pub ahead_passes : (found own : Option Freed) → IsSiftedOrBehind survey filter cutoff (place, candidate) found → IsAheadOrNone cutoff place found own → IfSome own (Passes survey filter candidate)
  ahead_passes None own none ahead = subst (λ (one : Option Freed). IfSome one (Passes survey filter candidate)) (sym ahead) tt
  ahead_passes (Some freed) None is ahead = tt
  ahead_passes (Some freed) (Some own) is ahead = subst (Passes survey filter candidate) (sym ahead.0) is

  no_row : (row : Option Row) → row ≡ None → ((freed : Freed) → Passes survey filter candidate freed → IsBehind cutoff place freed.left) → IsRowOrBehind survey cost filter cutoff (place, candidate) row
  no_row row same none = subst (IsRowOrBehind survey cost filter cutoff (place, candidate)) (sym same) none

  pub row_or_behind : ((own : Survey) (number : Number) (first second : ℕ) → IsFreed own number first → IsFreed own number second → first ≡ second)
      → (found own : Option Freed) (row : Option Row) → IsSiftedOrBehind survey filter cutoff (place, candidate) found → IsAheadOrNone cutoff place found own → IsRowOfFound survey cost filter candidate own row
      → IsRowOrBehind survey cost filter cutoff (place, candidate) row
  row_or_behind one None own row none ahead is = no_row row (subst (λ (found : Option Freed). IsRowOfFound survey cost filter candidate found row) ahead is) none
  row_or_behind one (Some freed) None row passes behind is =
      no_row row is (λ other also. subst (IsBehind cutoff place) (one survey (number_of candidate) freed.left other.left passes.explains.exact.left also.explains.exact.left) behind)
  row_or_behind one (Some freed) (Some own) None passes ahead is = absurd is
  row_or_behind one (Some freed) (Some own) (Some row) passes (same, ahead) (is, left) = (is, λ behind. ahead (subst (IsBehind cutoff place) (left ∙ ap (λ (freed : Freed). freed.left) same) behind))
