-- The numbers of a survey, in the order of rows that explain equally.
use Rattle.std.specs.Prelude.{ℕ, ◌==◌, ◌&&◌, ◌++◌, Bool, true, false, List, [], ◌∷◌, if◌then◌else◌, map, nat_le, nat_lt}
use Rattle.std.specs.List.{enumerate_from, flat_map}
use Rattle.th_observations.specs.Observed.{Observed}
use Rattle.th_entries.specs.declared.entries.Entry.{Entry}
use Rattle.th_entries.specs.declared.entries.HeightKind.{HeightKind}
use Rattle.th_entries.specs.declared.entries.HeightKind.TheVariants as height
use Rattle.th_entries.specs.declared.reviews.BookReview.{BookReview}
use Rattle.th_network.specs.Networks.{Survey}
use Rattle.th_reliability.specs.Sights.{in_sights}
use Rattle.th_reliability.specs.declared.sights.Sights.{Sights}
use Rattle.th_review_rows.specs.Entries.{sights_of}
use Rattle.th_numbers.specs.Candidates.{count_in, sights_since}
use Rattle.th_numbers.specs.declared.listing.Listing.{Listing}
use Rattle.th_numbers.specs.declared.books.SightedBook.{SightedBook}
use Rattle.th_numbers.specs.declared.ties.TiedRow.{TiedRow}
use Rattle.th_numbers.specs.declared.candidates.Candidate.{Candidate}
use Rattle.th_numbers.specs.declared.candidates.Candidate.TheVariants.{Entered, Since, Sight, Benchmark}

-- whether the height of an entry is of a kind
abbrev pub is_kind : HeightKind → HeightKind → Bool
is_kind height.Instrument height.Instrument = true
is_kind height.Reflector height.Reflector = true
is_kind kind other = false

-- whether an observation is among the sights of an entry of a kind
abbrev pub is_used : HeightKind → Observed → Entry → Bool
is_used own o entry = is_kind entry.kind own && in_sights (sights_of entry) o

-- an entry of two or more sights; an entry of one sight is that sight
abbrev pub is_shared : List Observed → Entry → Bool
is_shared observations entry = nat_le 2 (count_in observations (sights_of entry))

-- the number of an entry, if it is of a kind and has two or more sights
abbrev pub entered_at : List Observed → HeightKind → Entry → List Candidate
entered_at observations kind entry = if is_kind entry.kind kind && is_shared observations entry then Entered entry ∷ [] else []

abbrev pub entered : List Observed → HeightKind → List Entry → List Candidate
entered observations kind entries = flat_map (entered_at observations kind) entries

-- some sights are two or more, and fewer than others
abbrev pub is_part_of : List Observed → Sights → Sights → Bool
is_part_of observations part whole = nat_le 2 (count_in observations part) && nat_lt (count_in observations part) (count_in observations whole)

-- the sights of an entry from the line of an observation on are two or more, and not all
abbrev pub is_part : List Observed → Observed → Entry → Bool
is_part observations o entry = is_part_of observations (sights_since entry o.line) (sights_of entry)

-- a change of an entry may have been forgotten before one of its sights, if this is so
abbrev pub is_forgotten : List Observed → Observed → Entry → Bool
is_forgotten observations o entry = in_sights (sights_of entry) o && is_part observations o entry

abbrev pub forgotten_at : List Observed → HeightKind → Observed → Entry → List Candidate
forgotten_at observations kind o entry = if is_kind entry.kind kind && is_forgotten observations o entry then Since entry o.line ∷ [] else []

-- the changes of a kind that may have been forgotten before an observation
abbrev pub forgotten : List Observed → List Entry → HeightKind → Observed → List Candidate
forgotten observations entries kind o = flat_map (forgotten_at observations kind o) entries

-- those of both kinds, the instrument's first
abbrev pub changes_at : List Observed → List Entry → Observed → List Candidate
changes_at observations entries o = forgotten observations entries height.Instrument o ++ forgotten observations entries height.Reflector o

abbrev pub changes : List Observed → List Entry → List Candidate
changes observations entries = flat_map (changes_at observations entries) observations

-- the benchmarks that are tied to another one, given for each row whether it is; records are counted from 1, and the header is record 1
abbrev pub benchmark_at : ℕ × TiedRow → List Candidate
benchmark_at (place, row) = if row.tied then Benchmark place row.name ∷ [] else []

abbrev pub tied_benchmarks : List TiedRow → List Candidate
tied_benchmarks rows = flat_map benchmark_at (enumerate_from 2 rows)

-- the books that have a sight, with the number of their sights
abbrev pub book_at : ℕ × BookReview → List SightedBook
book_at (number, review) = if review.counts.sights == 0 then [] else (record { number = number; sights = review.counts.sights } ∷ [])

abbrev pub books_of : List BookReview → List SightedBook
books_of reviews = flat_map book_at (enumerate_from 1 reviews)

-- the numbers of a survey but for those of books, by kind
pub record Listed : Type 0 where
  pub entered : List Candidate
  pub changes : List Candidate
  pub sights : List Candidate
  pub benchmarks : List Candidate

abbrev pub listed_in : Listing → Listed
listed_in listing = record {
  entered = listing.entered.items;
  changes = listing.changes.items;
  sights = listing.sights.items;
  benchmarks = listing.benchmarks.items;
}

-- all of them
abbrev pub in_order : Listed → List Candidate
in_order listed = listed.entered ++ listed.changes ++ listed.sights ++ listed.benchmarks

-- the numbers of a survey with these entries, given which benchmarks are tied to another one
abbrev pub listed_of : Survey → List Entry → List TiedRow → Listed
listed_of survey entries tied = record {
  entered = entered survey.observations height.Instrument entries ++ entered survey.observations height.Reflector entries;
  changes = changes survey.observations entries;
  sights = map Sight survey.observations;
  benchmarks = tied_benchmarks tied;
}
