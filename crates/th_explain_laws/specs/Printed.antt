-- Rows that are printed, as those of numbers and books.
use Rattle.std.specs.Prelude.{◌≡◌, ℕ, ◌≤◌, ℤ, List, Contains}
use Rattle.th_entries.specs.declared.entries.Entry.{Entry}
use Rattle.th_entries.specs.declared.reviews.BookReview.{BookReview}
use Rattle.th_explain.specs.declared.freed.Freed.{Freed}
use Rattle.th_explain_texts.specs.Ranks.{with_number}
use Rattle.th_explain_texts.specs.declared.rows.Row.{Row}
use Rattle.th_network.specs.Networks.{Survey}
use Rattle.th_numbers.specs.Lists.{books_of}
use Rattle.th_numbers.specs.Readings.{IsBookRow}
use Rattle.th_explain_rows.specs.Explanations.{AreExplained}
use Rattle.th_explain_rows.specs.Rows.{IsRow, Passes, beyond, sifting}
use Rattle.th_explain_rows.specs.declared.findings.Explanations.{Explanations}
use Rattle.th_explain_rows.specs.declared.rows.Filter.{Filter}
use Rattle.th_numbers.specs.declared.books.SightedBook.{SightedBook}
use Rattle.th_numbers.specs.declared.candidates.Candidate.{Candidate}

-- the row of one of these numbers, which passes; rows are numbered when they are ranked
pub record IsOfNumber (survey : Survey) (cost : ℕ) (filter : Filter) (candidates : List Candidate) (row : Row) : Type 0 where
  pub candidate : Candidate
  pub listed : Contains candidates candidate
  pub own : Row
  pub passes : IsRow survey cost filter candidate own
  pub same : row ≡ with_number own row.number

-- the row of one of the books, which fits much better if it is read from mark to mark
pub record IsOfBook (survey : Survey) (entries : List Entry) (cost : ℕ) (limit : ℤ) (reviews : List BookReview) (row : Row) : Type 0 where
  pub book : SightedBook
  pub listed : Contains (books_of reviews) book
  pub own : Row
  pub fits : IsBookRow survey entries cost limit book own
  pub same : row ≡ with_number own row.number

-- one of the rows is that of this number
pub record IsAmongRows (survey : Survey) (cost : ℕ) (filter : Filter) (candidate : Candidate) (rows : List Row) : Type 0 where
  pub own : Row
  pub passes : IsRow survey cost filter candidate own
  pub number : ℕ
  pub printed : Contains rows (with_number own number)

-- the filter of the rows that are printed: the limit, and the least that a number beyond it leaves
abbrev pub filter_of : {survey : Survey} {reviews : List BookReview} {limit : ℤ} {explained : Explanations} → AreExplained survey reviews limit explained → Filter
filter_of {limit = limit} are = sifting limit are.printed.best

-- one of these numbers has its mildest change beyond the limit, and none of those leaves less than this
pub record IsLed (survey : Survey) (limit : ℤ) (candidates : List Candidate) (left : ℕ) : Type 0 where
  pub candidate : Candidate
  pub listed : Contains candidates candidate
  pub freed : Freed
  pub passes : Passes survey (beyond limit) candidate freed
  pub least : (other : Candidate) (own : Freed) → Contains candidates other → Passes survey (beyond limit) other own → left ≤ own.left
