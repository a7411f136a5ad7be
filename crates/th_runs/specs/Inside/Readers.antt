-- What the readers of notes and of reviews promise of a book.
use Rattle.std.specs.Prelude.{◌≡◌, ◌++◌, ℕ, List, [], ◌∷◌, Option, IfSome, Ok, length, option_to_list}
use Rattle.th_entries.specs.Sights.{no_sight_in}
use Rattle.th_runs.specs.declared.notes.Notes.{Notes}
use Rattle.th_book.specs.Books.{book_answer}
use Rattle.th_observations.specs.Observed.{Observed}
use Rattle.th_book.specs.Lines.{ParsedLine}
use Rattle.th_entries.specs.Reviews.{Reviews, parsed_of}
use Rattle.th_entries.specs.Seen.{AddsBook}
use Rattle.th_inputs.specs.Sums.{sum_of}
use Rattle.th_inputs.specs.declared.inputs.Input.TheVariants.{Book}
use Rattle.th_inputs.specs.declared.sums.Sum.{Sum}
use Rattle.th_entries.specs.declared.seen.SeenNames.{SeenNames}
use Rattle.th_entries.specs.Tallied.{HasSeen}
use Rattle.th_entries.specs.declared.tallies.Tally.{Tally}
use Rattle.th_entries.specs.declared.reviews.BookReview.{BookReview}

-- the book with this number was read, and noted if it has no sight; its text is the reported one, if one is reported
pub record IsNotedNext (number : ℕ) (told : Option (List ℕ)) (old new : Notes) : Type 0 where
  pub text : List ℕ
  pub is_told : IfSome told (λ own. own ≡ text)
  pub noted : new.books.items ≡ old.books.items ++ option_to_list (no_sight_in number (parsed_of text))
  pub remarks : new.remarks ≡ old.remarks

-- the review of a tally was put after others, and the names of its book were added to those before
pub record IsAdded (tally : Tally) (old new : List BookReview) (more : SeenNames) : Type 0 where
  pub review : BookReview
  pub joined : new ≡ old ++ review ∷ []
  pub reviewed : (names : SeenNames) (number : ℕ) (parsed : List ParsedLine) → HasSeen names number parsed (length parsed) tally → Reviews number parsed review
  pub named : (names : SeenNames) (number : ℕ) (parsed : List ParsedLine) → HasSeen names number parsed (length parsed) tally → AddsBook number parsed names more

-- The review and the sum of the book with this number were put after others, and the names that it mentions were added to those of
-- the books before. Its text is the reported one, if one is reported, and gives the observations.
pub record IsReviewedNext (number : ℕ) (told : Option (List ℕ)) (observations : List Observed) (old new : List BookReview) (names more : SeenNames) (sums more_sums : List Sum) : Type 0 where
  pub text : List ℕ
  pub review : BookReview
  pub is_told : IfSome told (λ own. own ≡ text)
  pub answered : book_answer number text ≡ Ok observations
  pub reviewed : Reviews number (parsed_of text) review
  pub joined : new ≡ old ++ review ∷ []
  pub named : AddsBook number (parsed_of text) names more
  pub summed : more_sums ≡ sums ++ sum_of (Book number) text ∷ []
