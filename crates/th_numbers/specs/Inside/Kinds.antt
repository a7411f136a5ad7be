-- Entries of one kind in the order of books and lines, and those that an observation may be among.
use Rattle.std.specs.Prelude.{◌≡◌, ℕ, ◌+◌, ◌<◌, ◌≤◌, ◌==◌, ◌&&◌, ◌||◌, Bool, true, false, List, length, nat_le, nat_lt, slice_index_or}
use Rattle.th_observations.specs.Observed.{Observed}
use Rattle.th_entries.specs.declared.entries.Entry.{Entry}
use Rattle.th_entries.specs.declared.entries.HeightKind.{HeightKind}
use Rattle.th_reliability.specs.Sights.{in_sights}
use Rattle.th_review_rows.specs.Entries.{sights_of}
use Rattle.th_numbers.specs.Lists.{is_kind}

-- whether an entry is of a kind
abbrev pub is_of : HeightKind → Entry → Bool
is_of kind entry = is_kind entry.kind kind

-- whether an entry ends before a line of a book
abbrev pub is_ended : ℕ → ℕ → Entry → Bool
is_ended book line entry = nat_lt entry.book book || ((entry.book == book) && nat_lt entry.last line)

-- whether an entry ends before another begins, which does not end before it begins
abbrev pub precedes : Entry → Entry → Bool
precedes entry next = is_ended next.book next.line entry && nat_le next.line next.last

abbrev pub FollowEachOther : List Entry → Type 0
FollowEachOther entries = (k : ℕ) (d : Entry) → k + 1 < length entries → precedes (slice_index_or entries k d) (slice_index_or entries (k + 1) d) ≡ true

-- all entries that an observation is among are from one place up to another, without the second; places count from 0
pub record AreAround (entries : List Entry) (o : Observed) (run : ℕ × ℕ) : Type 0 where
  pub ordered : run.0 ≤ run.1
  pub within : run.1 ≤ length entries
  pub below : (k : ℕ) (d : Entry) → k < run.0 → in_sights (sights_of (slice_index_or entries k d)) o ≡ false
  pub above : (k : ℕ) (d : Entry) → run.1 ≤ k → k < length entries → in_sights (sights_of (slice_index_or entries k d)) o ≡ false
