-- What was read at an observation, in the book that has it.
use Rattle.std.specs.Prelude.{◌≡◌, ℕ, ◌-◌, ℤ, List, Contains}
use Rattle.std.specs.List.{AllZip}
use Rattle.gsi_word.specs.Indexes.{height_difference}
use Rattle.th_observations.specs.Observed.{Observed}
use Rattle.th_book.specs.Books.{known}
use Rattle.th_book.specs.Lines.{ParsedLine, length_in}
use Rattle.th_book.specs.Places.{words_at}
use Rattle.th_entries.specs.Reviews.{Reviews}
use Rattle.th_entries.specs.Several.{numbered}
use Rattle.th_entries.specs.declared.reviews.BookReview.{BookReview}

-- the reviews are those of the books with these texts, numbered from 1
abbrev pub AreReviews : List (List ℕ) → List BookReview → Type 0
AreReviews texts reviews = AllZip (λ (book : ℕ × List ParsedLine) (review : BookReview). Reviews book.0 book.1 review) (numbered 1 texts) reviews

-- the length is word 33 in the line of an observation, in its book among those with these texts, numbered from 1
pub record IsWord33 (texts : List (List ℕ)) (o : Observed) (read : ℤ) : Type 0 where
  pub parsed : List ParsedLine
  pub of_book : Contains (numbered 1 texts) (o.book, parsed)
  pub is : read ≡ known (length_in height_difference (words_at parsed (o.line - 1)))
