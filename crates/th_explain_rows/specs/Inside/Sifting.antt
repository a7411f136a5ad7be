-- Numbers that pass a filter, of which some may be missing.
use Rattle.std.specs.Prelude.{◌≡◌, ◌⊎◌, ℕ, ◌≤◌, ℤ, true, List, Option, Some, None, fold, min, ⊤}
use Rattle.th_explain.specs.Explained.{IsAtLeast}
use Rattle.th_explain.specs.declared.freed.Freed.{Freed}
use Rattle.th_network.specs.Networks.{Survey}
use Rattle.th_numbers.specs.declared.candidates.Candidate.{Candidate}
use Rattle.th_explain_rows.specs.Rows.{IsBehind, Passes, beyond}
use Rattle.th_explain_rows.specs.declared.rows.Cutoff.{Cutoff}
use Rattle.th_explain_rows.specs.declared.rows.Filter.{Filter}
use Rattle.th_explain_rows.specs.declared.sifting.Earlier.{Earlier}

-- what was found of a number at its place, if it passes a filter; those behind a cutoff may be missing
abbrev pub IsSiftedOrBehind : Survey → Filter → Option Cutoff → ℕ × Candidate → Option Freed → Type 0
IsSiftedOrBehind survey filter cutoff (place, candidate) None = (freed : Freed) → Passes survey filter candidate freed → IsBehind cutoff place freed.left
IsSiftedOrBehind survey filter cutoff (place, candidate) (Some freed) = Passes survey filter candidate freed

-- what is left at least by numbers that were found, given the least that is left by those before
abbrev pub lesser : Option ℕ → Option Freed → Option ℕ
lesser None None = None
lesser None (Some freed) = Some freed.left
lesser (Some least) None = Some least
lesser (Some least) (Some freed) = Some (min least freed.left)

abbrev pub least_left : List (Option Freed) → Option ℕ
least_left found = fold lesser None found

-- none behind the cutoff leaves less than this, the least that was found
abbrev pub IsSettled : Option ℕ → Option Cutoff → Type 0
IsSettled least None = ⊤
IsSettled None (Some cutoff) = ⊥
IsSettled (Some least) (Some cutoff) = least ≤ cutoff.left

-- the number passes beyond a limit and leaves no more than the best; or it does not, or leaves what may be missing
abbrev pub IsMilderOr : Survey → ℤ → ℕ → Option ℕ → Candidate → Option Freed → Type 0
IsMilderOr survey limit best least candidate None = (freed : Freed) → Passes survey (beyond limit) candidate freed → freed.left ≤ best → IsAtLeast least freed.left
IsMilderOr survey limit best least candidate (Some freed) = Passes survey (beyond limit) candidate freed × (freed.left ≤ best)

-- what was found of a number before; or if nothing was, what is found of it now
abbrev pub IsFoundOrMilder : Survey → ℤ → ℕ → Option ℕ → Candidate → Option Freed → Option Freed → Type 0
IsFoundOrMilder survey limit best least candidate (Some freed) own = own ≡ Some freed
IsFoundOrMilder survey limit best least candidate None own = IsMilderOr survey limit best least candidate own

-- the same, but nothing if it is known that the number does not pass beyond half of the limit either
abbrev pub IsKnownOrMilder : Survey → ℤ → ℕ → Option ℕ → Candidate → Earlier → Option Freed → Type 0
IsKnownOrMilder survey limit best least candidate earlier own = ((earlier.is_mild ≡ true) × (own ≡ None)) ⊎ IsFoundOrMilder survey limit best least candidate earlier.freed own
