-- The row of a number, where it explains what does not fit.
use Rattle.std.specs.Prelude.{◌≡◌, ◌⊎◌, ℕ, ◌-◌, ◌/◌, ◌<◌, ◌≤◌, ℤ, pos, ◌+ℤ◌, Bool, false, List, Contains, Option, Some, None, if◌then◌else◌, int_lt, nat_le, unsigned_abs}
use Rattle.th_explain.specs.Explained.{Explains}
use Rattle.th_changes.specs.Freed.{Keeps, cost_of}
use Rattle.th_explain.specs.Mended.{LeavesBlunders}
use Rattle.th_changes.specs.Numbers.{changed}
use Rattle.th_changes.specs.Reach.{reach_of}
use Rattle.th_explain.specs.declared.freed.Freed.{Freed}
use Rattle.th_changes.specs.declared.numbers.Number.{Number}
use Rattle.th_explain_texts.specs.declared.rows.Row.{Row}
use Rattle.th_explain_texts.specs.declared.rows.Values.{Values}
use Rattle.th_network.specs.Networks.{Survey}
use Rattle.th_numbers.specs.Candidates.{given_of, label_of, number_of, sight_count, whole_of}
use Rattle.th_numbers.specs.declared.candidates.Candidate.{Candidate}
use Rattle.th_numbers.specs.declared.candidates.Label.{Label}
use Rattle.th_explain_rows.specs.declared.rows.Cutoff.{Cutoff}
use Rattle.th_explain_rows.specs.declared.rows.Filter.{Filter}

-- a limit of blunders as a size: 0 where it is below
abbrev pub limit_size : ℤ → ℕ
limit_size limit = if int_lt limit (pos 0) then 0 else unsigned_abs limit

-- half of a limit, 0 where it is below
abbrev pub half_of : ℤ → ℤ
half_of limit = pos (limit_size limit / 2)

-- the filter of a limit, given what the best number beyond it leaves
abbrev pub sifting : ℤ → Option ℕ → Filter
sifting limit best = record { limit = limit; best = best }

-- the filter that only numbers pass whose mildest change is beyond a limit
abbrev pub beyond : ℤ → Filter
beyond limit = sifting limit None

-- whether an amount is no more than another one, if that is given
abbrev pub is_at_most : Option ℕ → ℕ → Bool
is_at_most None left = false
is_at_most (Some best) left = nat_le left best

-- The mildest change of a number that leaves so much must be above this: the limit; or half of it, if the number leaves no more than the best of
-- those beyond the limit.
abbrev pub least_change : Filter → ℕ → ℕ
least_change filter left = if is_at_most filter.best left then limit_size filter.limit / 2 else limit_size filter.limit

-- the mildest of the changes that are proposed, the one nearest to none
abbrev pub mildest_change : Freed → ℤ
mildest_change freed = if int_lt (pos 0) freed.low then freed.low else (if int_lt freed.high (pos 0) then freed.high else pos 0)

-- no change within reach of a whole entry leaves less; that is so of a number that is no part of one
abbrev pub LeavesNoMore : Survey → Option Number → ℕ → Type 0
LeavesNoMore survey None left = Unit {0}
LeavesNoMore survey (Some whole) left =
    (x : ℤ) (heights : List ℕ → ℤ) → unsigned_abs x ≤ reach_of whole survey.observations → Keeps (changed whole x survey) heights → left ≤ cost_of (changed whole x survey) heights

-- A number is a row: it explains what does not fit, with even its mildest value as far from the given one as the filter wants. If it is a
-- change that was forgotten, no change within reach of the whole entry leaves less.
pub record Passes (survey : Survey) (filter : Filter) (candidate : Candidate) (freed : Freed) : Type 0 where
  pub explains : Explains survey (least_change filter freed.left) (number_of candidate) freed
  pub leads : LeavesNoMore survey (whole_of candidate) freed.left

-- a given value, with the lowest and the highest value that are proposed
abbrev pub values_of : ℤ → Freed → Values
values_of given freed = record { given = given; low = given +ℤ freed.low; high = given +ℤ freed.high }

-- a row from its columns; rows are numbered when they are ranked
abbrev pub row_with : Label → ℕ → Values → ℕ → ℕ → ℕ → Row
row_with label sights values cost left blunders = record {
  number = 0;
  kind = label.kind;
  book = label.book;
  line = label.line;
  last = label.last;
  from = label.from;
  to = label.to;
  sights = sights;
  values = Some values;
  explains = cost - left;
  left = left;
  blunders = blunders;
}

-- the row of a number, given what the survey costs and how many blunders are left
abbrev pub row_of : Survey → ℕ → Candidate → Freed → ℕ → Row
row_of survey cost candidate freed blunders =
    row_with (label_of candidate) (sight_count survey (number_of candidate)) (values_of (given_of survey.benchmarks candidate) freed) cost freed.left blunders

-- What the best of some numbers leaves whose mildest change is beyond the limit: none leaves less. There may be none of them.
pub record IsOfBestBeyond (survey : Survey) (limit : ℤ) (candidates : List Candidate) (best : ℕ) : Type 0 where
  pub candidate : Candidate
  pub listed : Contains candidates candidate
  pub freed : Freed
  pub passes : Passes survey (beyond limit) candidate freed
  pub left : freed.left ≡ best
  pub least : (other : Candidate) (own : Freed) → Contains candidates other → Passes survey (beyond limit) other own → best ≤ own.left

abbrev pub IsBestBeyond : Survey → ℤ → List Candidate → Option ℕ → Type 0
IsBestBeyond survey limit candidates None = (other : Candidate) (own : Freed) → Contains candidates other → ¬ Passes survey (beyond limit) other own
IsBestBeyond survey limit candidates (Some best) = IsOfBestBeyond survey limit candidates best

-- the row of a number that passes, with the blunders that are left where it has its mildest value
pub record IsRow (survey : Survey) (cost : ℕ) (filter : Filter) (candidate : Candidate) (row : Row) : Type 0 where
  pub freed : Freed
  pub passes : Passes survey filter candidate freed
  pub blunders : LeavesBlunders survey (number_of candidate) (mildest_change freed) filter.limit row.blunders
  pub printed : row ≡ row_of survey cost candidate freed row.blunders

-- A number at this place, in the order of numbers, that leaves so much is behind the cutoff: it leaves more, or as much and is not before its place.
abbrev pub IsBehind : Option Cutoff → ℕ → ℕ → Type 0
IsBehind None place left = ⊥
IsBehind (Some cutoff) place left = (cutoff.left < left) ⊎ ((cutoff.left ≡ left) × (cutoff.place ≤ place))

-- the row of a number at its place, ahead of the cutoff; or none if it does not pass, or is behind the cutoff
abbrev pub IsRowOrBehind : Survey → ℕ → Filter → Option Cutoff → ℕ × Candidate → Option Row → Type 0
IsRowOrBehind survey cost filter cutoff (place, candidate) None = (freed : Freed) → Passes survey filter candidate freed → IsBehind cutoff place freed.left
IsRowOrBehind survey cost filter cutoff (place, candidate) (Some row) = IsRow survey cost filter candidate row × ¬ IsBehind cutoff place row.left
