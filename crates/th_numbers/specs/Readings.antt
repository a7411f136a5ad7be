-- A book that is read from mark to mark.
use Rattle.std.specs.Prelude.{◌≡◌, ℕ, ◌-◌, ◌*◌, ◌==◌, ◌&&◌, ◌≤◌, ℤ, pos, ◌+ℤ◌, ◌-ℤ◌, Bool, true, List, Option, Some, None, All, find, if◌then◌else◌, map, nat_lt, unsigned_abs}
use Rattle.std.specs.Option.{option_map_or}
use Rattle.th_observations.specs.Observed.{Observed, largest_difference}
use Rattle.th_entries.specs.declared.entries.Entry.{Entry}
use Rattle.th_entries.specs.declared.entries.HeightKind.{HeightKind}
use Rattle.th_entries.specs.declared.entries.HeightKind.TheVariants as height
use Rattle.th_changes.specs.Freed.{cost_of}
use Rattle.th_circulation.specs.Extremes.{AreLowest}
use Rattle.th_blunders.specs.Blunders.{blunders_at}
use Rattle.th_explain_texts.specs.declared.rows.Kind.TheVariants as kind
use Rattle.th_explain_texts.specs.declared.rows.Row.{Row}
use Rattle.th_network.specs.Networks.{Survey}
use Rattle.th_reliability.specs.Sights.{in_sights}
use Rattle.th_review_rows.specs.Entries.{sights_of}
use Rattle.th_numbers.specs.Lists.{is_kind, is_used}
use Rattle.th_numbers.specs.declared.books.SightedBook.{SightedBook}

-- the height of a kind that an observation was made with: the length of the entry that it is among
abbrev pub height_in : List Entry → HeightKind → Observed → ℤ
height_in entries own o = option_map_or (λ entry. entry.length) (find (is_used own o) entries) (pos 0)

-- what was read at an observation, its word 33: the difference without the instrument height and with the reflector height
abbrev pub word_33 : List Entry → Observed → ℤ
word_33 entries o = o.difference -ℤ height_in entries height.Instrument o +ℤ height_in entries height.Reflector o

-- the difference of an observation where a book is read from mark to mark
abbrev pub read_difference : List Entry → ℕ → Observed → ℤ
read_difference entries book o = if o.book == book then word_33 entries o else o.difference

-- an observation with another difference
abbrev pub with_difference : Observed → ℤ → Observed
with_difference o difference = record o { difference = difference }

abbrev pub read_observation : List Entry → ℕ → Observed → Observed
read_observation entries book o = with_difference o (read_difference entries book o)

-- the survey, with a book read from mark to mark
abbrev pub reread : List Entry → ℕ → Survey → Survey
reread entries book survey = record survey { observations = map (read_observation entries book) survey.observations }

-- no difference is then larger than any in a network
abbrev pub IsReadable : List Entry → ℕ → List Observed → Type 0
IsReadable entries book observations = All (λ o. unsigned_abs (read_difference entries book o) ≤ largest_difference) observations

-- ten times what is left is less than the cost
abbrev pub is_cheaper : ℕ → ℕ → Bool
is_cheaper cost left = nat_lt (left * 10) cost

-- the row of a book, given what the survey costs, what is left, and how many blunders
abbrev pub row_of_book : ℕ → SightedBook → ℕ → ℕ → Row
row_of_book cost book left blunders = record {
  number = 0;
  kind = kind.Book;
  book = Some book.number;
  line = None;
  last = None;
  from = None;
  to = None;
  sights = book.sights;
  values = None;
  explains = cost - left;
  left = left;
  blunders = blunders;
}

-- the row of a book at the lowest best heights of the survey in which it is read from mark to mark
pub record IsBookRow (survey : Survey) (entries : List Entry) (cost : ℕ) (limit : ℤ) (book : SightedBook) (row : Row) : Type 0 where
  pub heights : List ℕ → ℤ
  pub lowest : AreLowest (reread entries book.number survey) heights
  pub cheaper : is_cheaper cost (cost_of (reread entries book.number survey) heights) ≡ true
  pub printed : row ≡ row_of_book cost book (cost_of (reread entries book.number survey) heights) (blunders_at limit (reread entries book.number survey) heights)

-- the row of a book, or none if it is no cheaper to read it from mark to mark; no book of a survey has a difference that is then too large
abbrev pub IsBookRowOrNone : Survey → List Entry → ℕ → ℤ → SightedBook → Option Row → Type 0
IsBookRowOrNone survey entries cost limit book None =
    IsReadable entries book.number survey.observations → (heights : List ℕ → ℤ) → AreLowest (reread entries book.number survey) heights → ¬ (is_cheaper cost (cost_of (reread entries book.number survey) heights) ≡ true)
IsBookRowOrNone survey entries cost limit book (Some row) = IsBookRow survey entries cost limit book row

-- observations as they are where a book is read from mark to mark, or none
abbrev pub IsReadOrNone : List Entry → ℕ → List Observed → Option (List Observed) → Type 0
IsReadOrNone entries book observations None = ¬ IsReadable entries book observations
IsReadOrNone entries book observations (Some read) = read ≡ map (read_observation entries book) observations

-- the survey, with a book read from mark to mark, or none
abbrev pub IsRereadOrNone : List Entry → ℕ → Survey → Option Survey → Type 0
IsRereadOrNone entries book survey None = ¬ IsReadable entries book survey.observations
IsRereadOrNone entries book survey (Some own) = own ≡ reread entries book survey
