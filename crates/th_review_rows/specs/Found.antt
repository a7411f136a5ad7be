-- What a review found of a survey and of its books.
use Rattle.std.specs.Prelude.{ℕ, ℤ, List, Option}
use Rattle.th_network.specs.Networks.{Survey}
use Rattle.th_entries.specs.declared.listed.Listed.{Listed}
use Rattle.th_entries.specs.declared.reviews.BookReview.{BookReview}
use Rattle.th_entries.specs.declared.spellings.Spelling.{Spelling}
use Rattle.th_notes.specs.Findings.{notes_of}
use Rattle.th_notes.specs.declared.notes.Note.{Note}
use Rattle.th_reliability.specs.declared.benchmarks.BenchmarkEffect.{BenchmarkEffect}
use Rattle.th_reliability.specs.declared.blames.Blame.{Blame}
use Rattle.th_reliability.specs.declared.effects.Effect.{Effect}
use Rattle.th_review_rows.specs.Entries.{entries_of}
use Rattle.th_review_rows.specs.Rows.{benchmark_rows, entry_rows, observation_rows, point_rows}
use Rattle.th_review_rows.specs.declared.findings.Findings.{Findings}
use Rattle.th_review_rows.specs.declared.found.Found.{Found}
use Rattle.th_review_rows.specs.declared.rows.PointRow.{PointRow}
use Rattle.th_review_rows.specs.declared.rows.ObservationRow.{ObservationRow}
use Rattle.th_review_rows.specs.declared.rows.EntryRow.{EntryRow}
use Rattle.th_review_rows.specs.declared.rows.BenchmarkRow.{BenchmarkRow}

-- the numbers found: for each point its strength, and its strength if all weights are 1;
-- for each observation its control, and what a mistake in it would move; for each entry what a mistake in it would do;
-- for each benchmark what a wrong height would do
pub record FoundNumbers : Type 0 where
  pub strengths : List (Option ℕ)
  pub unit_strengths : List (Option ℕ)
  pub controls : List (Option ℕ)
  pub blames : List (Option Blame)
  pub effects : List Effect
  pub benchmarks : List BenchmarkEffect

abbrev pub numbers_in : Findings → FoundNumbers
numbers_in findings = record {
  strengths = findings.strengths.items;
  unit_strengths = findings.unit_strengths.items;
  controls = findings.controls.items;
  blames = findings.blames.items;
  effects = findings.effects.items;
  benchmarks = findings.benchmarks.items;
}

-- a survey, the reviews of its books, and what was found of them: a row for each point, observation, entry and benchmark, and the notes
pub record FoundRows : Type 0 where
  pub survey : Survey
  pub books : List BookReview
  pub points : List PointRow
  pub observations : List ObservationRow
  pub entries : List EntryRow
  pub benchmarks : List BenchmarkRow
  pub notes : List Note

abbrev pub rows_in : Found → FoundRows
rows_in found = record {
  survey = found.network.now;
  books = found.reviews.now;
  points = found.points.items;
  observations = found.observations.items;
  entries = found.entries.items;
  benchmarks = found.benchmarks.items;
  notes = found.notes.items;
}

-- the rows, given maps of the lowest and highest best heights, the numbers found, the books, and the names that are spelled in more than one way
abbrev pub found_rows : Survey → (List ℕ → ℤ) → (List ℕ → ℤ) → FoundNumbers → List BookReview → Listed Spelling → FoundRows
found_rows survey low high numbers books spellings = record {
  survey = survey;
  books = books;
  points = point_rows survey low high numbers.strengths numbers.unit_strengths;
  observations = observation_rows survey low numbers.controls numbers.blames;
  entries = entry_rows survey (entries_of books) numbers.effects;
  benchmarks = benchmark_rows survey numbers.benchmarks;
  notes = notes_of survey low books spellings;
}
