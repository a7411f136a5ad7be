-- Another value of a number, typed into a table of changes.
use Rattle.std.specs.Prelude.{◌≡◌, ◌≢◌, ℕ, ℤ, ◌-◌, ◌+ℤ◌, ◌-ℤ◌, true, All, Contains, List, Option, Some, None}
use Rattle.gsi_word.specs.Indexes.{height_difference}
use Rattle.th_observations.specs.Observed.{Observed}
use Rattle.th_book.specs.Books.{known}
use Rattle.th_book.specs.Lines.{ParsedLine, length_in}
use Rattle.th_book.specs.Places.{words_at}
use Rattle.th_entries.specs.Entries.{entries_of}
use Rattle.th_entries.specs.declared.entries.Entry.{Entry}
use Rattle.th_reliability.specs.Sights.{in_sights}
use Rattle.th_review_rows.specs.Entries.{sights_of}
use Rattle.th_numbers.specs.declared.candidates.Candidate.{Candidate}
use Rattle.th_numbers.specs.declared.candidates.Candidate.TheVariants.{Benchmark, Entered, Sight, Since}
use Rattle.th_mend.specs.declared.changes.Change.{Change}
use Rattle.th_mend.specs.declared.changes.Reach.TheVariants as reach
use Rattle.th_mend.specs.declared.changes.What.TheVariants.{Height, Sighted}

-- the height of an entry, in all of its words, and from a line on
abbrev pub entry_typed : Entry → ℤ → Change
entry_typed entry own = record { line = entry.line; what = Height entry.kind reach.Whole own }

abbrev pub since_typed : Entry → ℕ → ℤ → Change
since_typed entry line own = record { line = line; what = Height entry.kind reach.Since own }

-- the word 33 of a sight, which grows as its difference does
abbrev pub sight_typed : List ParsedLine → Observed → ℤ → Change
sight_typed parsed o own = record {
  line = o.line;
  what = Sighted (known (length_in height_difference (words_at parsed (o.line - 1))) +ℤ (own -ℤ o.difference));
}

-- the change that gives a number of a book with these lines another value; a benchmark is in no book
abbrev pub typed : List ParsedLine → Candidate → ℤ → Option Change
typed parsed (Entered entry) own = Some (entry_typed entry own)
typed parsed (Since entry line) own = Some (since_typed entry line own)
typed parsed (Sight o) own = Some (sight_typed parsed o own)
typed parsed (Benchmark place name) own = None

-- a change of an entry that was forgotten before one of its sights
pub record IsForgotten (number : ℕ) (parsed : List ParsedLine) (observations : List Observed) (entry : Entry) (line : ℕ) : Type 0 where
  pub entered : Contains (entries_of number parsed) entry
  pub sight : Observed
  pub among : Contains observations sight
  pub uses : in_sights (sights_of entry) sight ≡ true
  pub at : line ≡ sight.line

-- a number of a book with these lines, which has these observations
abbrev pub IsOfBook : ℕ → List ParsedLine → List Observed → Candidate → Type 0
IsOfBook number parsed observations (Entered entry) = Contains (entries_of number parsed) entry
IsOfBook number parsed observations (Since entry line) = IsForgotten number parsed observations entry line
IsOfBook number parsed observations (Sight o) = Contains observations o
IsOfBook number parsed observations (Benchmark place name) = ⊥

-- observations of other books
abbrev pub AreOfOthers : ℕ → List Observed → Type 0
AreOfOthers number observations = All (λ (o : Observed). o.book ≢ number) observations
