-- What a run prints that makes a page.
use Rattle.std.specs.Prelude.{◌≡◌, ℕ, ℤ, false, List, [], ◌∷◌, zip}
use Rattle.th_answer.specs.Answers.{IsAnswer}
use Rattle.th_answer.specs.declared.answers.Answer.{Answer}
use Rattle.th_circulation.specs.Best.{Best, IsBest}
use Rattle.th_entries.specs.declared.listed.Listed.{Listed}
use Rattle.th_entries.specs.declared.reviews.BookReview.{BookReview}
use Rattle.th_entries.specs.declared.spellings.Spelling.{Spelling}
use Rattle.th_inputs.specs.Inputs.{NamedInput}
use Rattle.th_inputs.specs.declared.sums.Sum.{Sum}
use Rattle.th_network.specs.Networks.{Survey, at_points_of}
use Rattle.th_explain_rows.specs.Explanations.{AreExplained}
use Rattle.th_explain_rows.specs.declared.findings.Explanations.{Explanations}
use Rattle.th_explain_texts.specs.Sentences.{sentences}
use Rattle.th_page.specs.Contents.{ShownRows, answered}
use Rattle.th_page.specs.Pages.{page_text}
use Rattle.th_review_rows.specs.Found.{FoundNumbers, found_rows}
use Rattle.th_run_parts.specs.Reads.{Run}
use Rattle.th_run_parts.specs.Summed.{Tolds}
use Rattle.th_runs.specs.Reviewed.{AreFound, AreReadFrom}
use Rattle.th_run_parts.specs.Writes.{Texts}
use Rattle.th_run_parts.specs.declared.outputs.Output.TheVariants as output
use Rattle.th_page.specs.Shown.{ExplainedRows, shown_of}

-- a run that makes a page, and what it writes
abbrev pub paging : Run
paging = record { has_certificate = false; outputs = output.Page ∷ [] }

-- what explanations say, in sentences of a line each
abbrev pub said : Explanations → List ℕ
said explained = sentences explained.summary explained.rows.items explained.named.items explained.readings.items

-- what would explain the marks, for this limit of blunders, and what that means
abbrev pub explained_with : Explanations → Answer → ℤ → ExplainedRows
explained_with explained meaning limit = record {
  cost = explained.summary.cost;
  limit = limit;
  rows = explained.rows.items;
  sentences = said explained;
  answer = answered meaning;
}

-- The text is a page of a survey with this title, of its books and of these inputs, for this limit of blunders in units of 10 nm. The heights
-- in it are best, and the rest is what was found, what would explain the marks, in rows and in the sentences of explain, and what that means.
pub record IsPaged (survey : Survey) (title : List ℕ) (inputs : List NamedInput) (books : List BookReview) (spellings : Listed Spelling) (limit : ℤ) (text : List ℕ) : Type 0 where
  pub answer : Best
  pub answers : IsBest survey answer
  pub found : FoundNumbers
  pub finds : AreFound survey books found
  pub explained : Explanations
  pub explains : AreExplained survey books limit explained
  pub meaning : Answer
  pub means : IsAnswer survey books explained.rows.items limit meaning
  pub printed : text ≡ page_text (shown_of title (found_rows survey (at_points_of survey answer.low) (at_points_of survey answer.high) found books spellings) inputs (explained_with explained meaning limit))

-- what such a page shows
abbrev pub shown_in : (survey : Survey) (title : List ℕ) (inputs : List NamedInput) (books : List BookReview) (spellings : Listed Spelling) (limit : ℤ) (text : List ℕ) → IsPaged survey title inputs books spellings limit text → ShownRows
shown_in survey title inputs books spellings limit text page =
    shown_of title (found_rows survey (at_points_of survey page.answer.low) (at_points_of survey page.answer.high) page.found books spellings) inputs (explained_with page.explained page.meaning limit)

-- the text of the output of a run over these inputs, whose books have these reviews
abbrev pub ArePrintedOf : List ℕ → List NamedInput → List BookReview → Listed Spelling → ℤ → Survey → Texts → Type 0
ArePrintedOf title inputs reviews spellings limit survey texts =
    (text : List ℕ) × IsPaged survey title inputs reviews spellings limit text × (texts ≡ (output.Page, text) ∷ [])

-- a run that ends in a page of this survey with this title, of the books that sources told and of the inputs with these names, writes this text
abbrev pub AreOfPage : List ℕ → List (List ℕ) → Tolds → ℤ → Survey → Texts → Type 0
AreOfPage title names tolds limit survey texts =
    (reviews : List BookReview) × (spellings : Listed Spelling) × (sums : List Sum) × AreReadFrom tolds reviews spellings sums
    × ArePrintedOf title (zip names sums) reviews spellings limit survey texts
