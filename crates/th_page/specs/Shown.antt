-- What a page shows of what was found: its rows, its notes, and what would explain its marks.
use Rattle.std.specs.Prelude.{ℕ, ℤ, ◌==◌, List, [], ◌∷◌, ◌++◌, if◌then◌else◌, map}
use Rattle.th_columns.specs.FileNames.{last_part}
use Rattle.th_explain_texts.specs.declared.rows.Row.{Row}
use Rattle.th_inputs.specs.Inputs.{NamedInput}
use Rattle.th_notes.specs.Notes.{note_text}
use Rattle.th_page.specs.Contents.{Answered, ShownRows, answered}
use Rattle.th_page.specs.declared.contents.Explained.{Explained}
use Rattle.th_review_rows.specs.Found.{FoundRows}

-- an input whose name has no folder
abbrev pub without_folder : NamedInput → NamedInput
without_folder input = (last_part input.0, input.1)

-- the lines of a text of which each ends with LF, without their ends, behind what is known of the first one
abbrev pub lines_behind : List ℕ → List ℕ → List (List ℕ)
lines_behind line [] = []
lines_behind line (byte ∷ rest) = if byte == 10 then line ∷ lines_behind [] rest else lines_behind (line ++ byte ∷ []) rest

abbrev pub lines_in : List ℕ → List (List ℕ)
lines_in text = lines_behind [] text

-- what would explain the marks of a survey, as lists: the least cost, the limit of blunders, the rows, in sentences of a line each, and what they mean
pub record ExplainedRows : Type 0 where
  pub cost : ℕ
  pub limit : ℤ
  pub rows : List Row
  pub sentences : List ℕ
  pub answer : Answered

abbrev pub explained_by : Explained → ExplainedRows
explained_by explained = record {
  cost = explained.cost;
  limit = explained.limit;
  rows = explained.rows.now;
  sentences = explained.sentences.now;
  answer = answered explained.answer.now;
}

-- what a page with a title shows, given what was found, the inputs, and what would explain the marks
abbrev pub shown_of : List ℕ → FoundRows → List NamedInput → ExplainedRows → ShownRows
shown_of title found inputs explained = record {
  title = title;
  inputs = map without_folder inputs;
  points = found.points;
  sights = found.observations;
  entries = found.entries;
  benchmarks = found.benchmarks;
  explanations = explained.rows;
  says = lines_in explained.sentences;
  notes = map note_text found.notes;
  cost = explained.cost;
  limit = explained.limit;
  answer = explained.answer;
}
