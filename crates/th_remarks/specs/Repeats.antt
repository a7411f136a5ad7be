-- Books of which many sights are in an earlier book too.
use Rattle.std.specs.Prelude.{◌≡◌, ◌<◌, ◌≤◌, ◌*◌, ◌+◌, ◌==◌, ◌&&◌, ℕ, Bool, List, Option, Some, None, length, option_to_list, slice_get}
use Rattle.std.specs.List.{count_by, flat_map, list_any}
use Rattle.std.specs.Ordering.{int_eq}
use Rattle.gsi_word.specs.Names.{same_pair}
use Rattle.th_limits.specs.Limits.{max_books}
use Rattle.th_observations.specs.Observed.{Observed}
use Rattle.th_remarks.specs.declared.repeats.Repeat.{Repeat}

-- whether a sight is in a numbered book
abbrev pub is_in : ℕ → Observed → Bool
is_in book o = o.book == book

-- whether two sights have the same station, the same target and the same difference
abbrev pub says_same : Observed → Observed → Bool
says_same o other = same_pair (o.station, o.target) (other.station, other.target) && int_eq o.difference other.difference

-- whether some sight of a book says what this one says
abbrev pub is_said_in : List Observed → ℕ → Observed → Bool
is_said_in observations book o = list_any (λ other. is_in book other && says_same other o) observations

-- how many sights a book has, and how many of them are in another one too
abbrev pub sights_in : List Observed → ℕ → ℕ
sights_in observations book = count_by (is_in book) observations

abbrev pub shared : List Observed → ℕ → ℕ → ℕ
shared observations book other = count_by (λ o. is_in book o && is_said_in observations other o) observations

-- a book with three sights or more, of which half or more are in an earlier book: the first of those that have the most
pub record IsRepeat (observations : List Observed) (book : ℕ) (note : Repeat) : Type 0 where
  pub own : note.book ≡ book
  pub sights : note.sights ≡ sights_in observations book
  pub three : 3 ≤ note.sights
  pub numbered : 1 ≤ note.earlier
  pub before : note.earlier < book
  pub count : note.count ≡ shared observations book note.earlier
  pub half : note.sights ≤ 2 * note.count
  pub most : (other : ℕ) → 1 ≤ other → other < book → shared observations book other ≤ note.count
  pub first : (other : ℕ) → 1 ≤ other → other < note.earlier → shared observations book other < note.count

-- the note on a numbered book; there is none if it has fewer sights than three, or no earlier book has half of them
abbrev pub IsRepeatNote : List Observed → ℕ → Option Repeat → Type 0
IsRepeatNote observations book None =
    3 ≤ sights_in observations book → (earlier : ℕ) → 1 ≤ earlier → earlier < book
    → 2 * shared observations book earlier < sights_in observations book
IsRepeatNote observations book (Some note) = IsRepeat observations book note

-- the notes on books 1 to `count` that have one, in their order
pub record AreRepeats (observations : List Observed) (count : ℕ) (notes : List Repeat) : Type 0 where
  pub found : List (Option Repeat)
  pub each : length found ≡ count
  pub noted : (k : ℕ) (note : Option Repeat) → slice_get found k ≡ Some note → IsRepeatNote observations (k + 1) note
  pub all : notes ≡ flat_map option_to_list found

-- the notes on all books that a command takes
abbrev pub AreRepeatNotes : List Observed → List Repeat → Type 0
AreRepeatNotes observations notes = AreRepeats observations max_books notes
