-- Numbers that pass, of which some may be missing.
use Rattle.std.specs.Prelude.{◌≡◌, ℕ, ◌<◌, ◌≤◌, ℤ, Bool, true, false, List, Option, Some, None, length, option_to_list}
use Rattle.th_explain.specs.Explained.{IsAtLeast}
use Rattle.std.specs.List.{AllZip, enumerate_from, flat_map}
use Rattle.th_explain.specs.declared.freed.Freed.{Freed}
use Rattle.th_changes.specs.declared.cases.Case.{Case}
use Rattle.th_changes.specs.declared.numbers.Number.{Number}
use Rattle.th_explain_texts.specs.declared.rows.Row.{Row}
use Rattle.th_network.specs.Networks.{Survey}
use Rattle.th_numbers.specs.Candidates.{whole_of}
use Rattle.th_numbers.specs.declared.candidates.Candidate.{Candidate}
use Rattle.th_explain_rows.specs.Explanations.{IsEnough}
use Rattle.th_explain_rows.specs.Rows.{IsBehind, IsBestBeyond, IsRow, IsRowOrBehind, LeavesNoMore, Passes, beyond, half_of, sifting}
use Rattle.th_explain_rows.specs.declared.finder.Finding.{Finding}
use Rattle.th_explain_rows.specs.declared.finder.Finding.TheVariants.{Exactly, Mild, More, AtLeast}
use Rattle.th_explain_rows.specs.declared.rows.Cutoff.{Cutoff}
use Rattle.th_explain_rows.specs.declared.rows.Filter.{Filter}

-- more is left than this, if anything is given
abbrev pub IsMore : Option ℕ → ℕ → Type 0
IsMore None left = ⊥
IsMore (Some most) left = most < left

-- the number passes beyond a limit, and what is then left; or it does not, or leaves what may be missing
abbrev pub IsPassedOr : Survey → ℤ → (ℕ → Type 0) → Candidate → Option Freed → Type 0
IsPassedOr survey limit MayMiss candidate None = (freed : Freed) → Passes survey (beyond limit) candidate freed → MayMiss freed.left
IsPassedOr survey limit MayMiss candidate (Some freed) = Passes survey (beyond limit) candidate freed

-- the number passes, and what is then left; or it does not, or leaves more than this amount, or at least as much; a mild one does not pass beyond
-- half of the limit either, or leaves more
abbrev pub IsFinding : Survey → ℤ → Option ℕ → Candidate → Finding → Type 0
IsFinding survey limit least candidate (Exactly freed) = Passes survey (beyond limit) candidate freed
IsFinding survey limit least candidate Mild = IsPassedOr survey (half_of limit) (IsMore least) candidate None
IsFinding survey limit least candidate More = IsPassedOr survey limit (IsMore least) candidate None
IsFinding survey limit least candidate AtLeast = IsPassedOr survey limit (IsAtLeast least) candidate None

-- the same, where nothing is known of changes that were forgotten
abbrev pub IsNoChangeOr : Survey → ℤ → Option ℕ → Candidate → Finding → Type 0
IsNoChangeOr survey limit least candidate finding = whole_of candidate ≡ None → IsFinding survey limit least candidate finding

-- what is left if a number is freed, where that was found
abbrev pub freed_of : Finding → Option Freed
freed_of (Exactly freed) = Some freed
freed_of Mild = None
freed_of More = None
freed_of AtLeast = None

-- whether it was found that a number does not pass beyond half of the limit either, or leaves more
abbrev pub is_mild : Finding → Bool
is_mild (Exactly freed) = false
is_mild Mild = true
is_mild More = false
is_mild AtLeast = false

-- what was found of a number at its place, where those behind a cutoff may be missing
abbrev pub IsPassedOrBehind : Survey → ℤ → Option Cutoff → ℕ × Candidate → Option Freed → Type 0
IsPassedOrBehind survey limit cutoff (place, candidate) found = IsPassedOr survey limit (IsBehind cutoff place) candidate found

-- if it is known of a number at its place, it does not pass beyond half of the limit, or is behind the cutoff
abbrev pub IsMildIf : Survey → ℤ → Option Cutoff → ℕ × Candidate → Bool → Type 0
IsMildIf survey limit cutoff (place, candidate) known = known ≡ true → IsPassedOr survey (half_of limit) (IsBehind cutoff place) candidate None

-- a change of a whole entry leads exactly if it leaves at most this
pub record IsMostOf (survey : Survey) (whole : Number) (most : ℕ) : Type 0 where
  pub leads : (left : ℕ) → left ≤ most → LeavesNoMore survey (Some whole) left
  pub only : (left : ℕ) → LeavesNoMore survey (Some whole) left → left ≤ most

-- what was found of a number, if it leaves no more than this
abbrev pub IsAtMostOrNone : ℕ → Option Freed → Option Freed → Type 0
IsAtMostOrNone most None found = found ≡ None
IsAtMostOrNone most (Some freed) None = most < freed.left
IsAtMostOrNone most (Some freed) (Some own) = (own ≡ freed) × (freed.left ≤ most)

-- what was found of a number at a place, if it is ahead of the cutoff
abbrev pub IsAheadOrNone : Option Cutoff → ℕ → Option Freed → Option Freed → Type 0
IsAheadOrNone cutoff place None ahead = ahead ≡ None
IsAheadOrNone cutoff place (Some freed) None = IsBehind cutoff place freed.left
IsAheadOrNone cutoff place (Some freed) (Some own) = (own ≡ freed) × ¬ IsBehind cutoff place freed.left

-- the row of what was found of a number
abbrev pub IsRowOfFound : Survey → ℕ → Filter → Candidate → Option Freed → Option Row → Type 0
IsRowOfFound survey cost filter candidate None row = row ≡ None
IsRowOfFound survey cost filter candidate (Some freed) None = ⊥
IsRowOfFound survey cost filter candidate (Some freed) (Some row) = IsRow survey cost filter candidate row × (row.left ≡ freed.left)

-- the rows of these numbers, but for some behind a cutoff with enough rows ahead of it
pub record AreOwnRows (survey : Survey) (cost : ℕ) (limit : ℤ) (candidates : List Candidate) (rows : List Row) : Type 0 where
  pub best : Option ℕ
  pub is_best : IsBestBeyond survey limit candidates best
  pub cutoff : Option Cutoff
  pub own : List (Option Row)
  pub numbers : AllZip (IsRowOrBehind survey cost (sifting limit best) cutoff) (enumerate_from 0 candidates) own
  pub enough : IsEnough cutoff (length rows)
  pub all : rows ≡ flat_map option_to_list own

-- the same, of numbers of a case
abbrev pub AreRowsOf : Case → ℤ → List Candidate → List Row → Type 0
AreRowsOf case limit candidates rows = AreOwnRows case.network.now case.cost limit candidates rows

-- the rows of these numbers at their places that pass and are ahead of the cutoff
abbrev pub AreRowsAhead : Case → Filter → Option Cutoff → List (ℕ × Candidate) → List Row → Type 0
AreRowsAhead case filter cutoff numbers rows = (own : List (Option Row)) × AllZip (IsRowOrBehind case.network.now case.cost filter cutoff) numbers own × (rows ≡ flat_map option_to_list own)
