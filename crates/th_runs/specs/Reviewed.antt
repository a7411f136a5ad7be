-- What a review prints.
use Rattle.std.specs.Prelude.{◌≡◌, ◌+◌, ◌++◌, ℕ, ℤ, false, List, [], ◌∷◌, Option, zip}
use Rattle.std.specs.List.{AllZip}
use Rattle.th_book.specs.Lines.{ParsedLine}
use Rattle.th_circulation.specs.Best.{Best, IsBest}
use Rattle.th_entries.specs.Listed.{IsListed}
use Rattle.th_entries.specs.Reviews.{Reviews}
use Rattle.th_entries.specs.Seen.{AreSeenInBooks}
use Rattle.th_entries.specs.Several.{numbered}
use Rattle.th_entries.specs.Spellings.{spellings_of}
use Rattle.th_entries.specs.declared.listed.Listed.{Listed}
use Rattle.th_entries.specs.declared.reviews.BookReview.{BookReview}
use Rattle.th_inputs.specs.Inputs.{NamedInput}
use Rattle.th_inputs.specs.Sums.{sum_of}
use Rattle.th_inputs.specs.declared.inputs.Input.TheVariants.{Book}
use Rattle.th_inputs.specs.declared.sums.Sum.{Sum}
use Rattle.th_network.specs.Networks.{Survey, at_points_of}
use Rattle.th_reliability.specs.Numbers.{AreControls, AreStrengths}
use Rattle.th_reliability.specs.BenchmarkEffects.{IsBenchmarkEffect}
use Rattle.th_reliability.specs.Effects.{AreBlames, IsEffect}
use Rattle.th_reliability.specs.Sights.{in_sights}
use Rattle.th_entries.specs.declared.spellings.Spelling.{Spelling}
use Rattle.th_review_rows.specs.Entries.{entries_of, sights_of}
use Rattle.th_review_rows.specs.Found.{FoundNumbers, found_rows}
use Rattle.th_review_texts.specs.Texts.{AreReviewTexts, ReviewOutTexts}
use Rattle.th_run_parts.specs.Inputs.{AreTold}
use Rattle.th_run_parts.specs.Reads.{Run}
use Rattle.th_run_parts.specs.Summed.{AreTablesSummed, Tolds}
use Rattle.th_run_parts.specs.Writes.{Texts}
use Rattle.th_run_parts.specs.declared.outputs.Output.TheVariants as output
use Rattle.th_runs.specs.declared.reviews.ReviewReader.{ReviewReader}

-- a review, and what it writes
abbrev pub reviewing : Run
reviewing = record { has_certificate = false; outputs = output.Points ∷ output.Observations ∷ output.Entries ∷ output.Benchmarks ∷ output.Review ∷ [] }

-- the texts of its outputs, in the order in which they are written
abbrev pub in_order : ReviewOutTexts → Texts
in_order texts =
    (output.Points, texts.points) ∷ (output.Observations, texts.observations) ∷ (output.Entries, texts.entries)
    ∷ (output.Benchmarks, texts.benchmarks) ∷ (output.Review, texts.review) ∷ []

-- a reader of reviews has read no book
pub record IsNewReader (reader : ReviewReader) : Type 0 where
  pub reviews : reader.reviews.items ≡ []
  pub names : AreSeenInBooks [] reader.names
  pub sums : reader.sums.items ≡ []

-- a review is that of a numbered book
abbrev pub IsReviewOf : ℕ × List ParsedLine → BookReview → Type 0
IsReviewOf book review = Reviews book.0 book.1 review

-- the reviews are those of books with the texts that sources gave, numbered from 1 on
pub record AreReviewsOfBooks (tolds : List (Option (List ℕ))) (reviews : List BookReview) : Type 0 where
  pub texts : List (List ℕ)
  pub told : AreTold tolds texts
  pub reviewed : AllZip IsReviewOf (numbered 1 texts) reviews

-- the sums of numbered books with these texts
abbrev pub book_sums : ℕ → List (List ℕ) → List Sum
book_sums number [] = []
book_sums number (text ∷ texts) = sum_of (Book number) text ∷ book_sums (number + 1) texts

-- The reviews are those of books with the texts that sources gave, numbered from this one on. So is the list of names that are spelled in more than one way,
-- and so are the sums.
pub record AreReviewsOf (number : ℕ) (tolds : List (Option (List ℕ))) (reviews : List BookReview) (spellings : Listed Spelling) (sums : List Sum) : Type 0 where
  pub texts : List (List ℕ)
  pub told : AreTold tolds texts
  pub reviewed : AllZip IsReviewOf (numbered number texts) reviews
  pub spelled : IsListed (spellings_of (numbered number texts)) spellings
  pub summed : sums ≡ book_sums number texts

-- What was found about a survey and the entries of its books: the strengths of its points, with its weights and with
-- all weights 1; the controls of its observations, and what a mistake in each would move; for each entry what a mistake in it would do; and for each
-- benchmark, in the order of their table, what a wrong height would do.
pub record AreFound (survey : Survey) (books : List BookReview) (found : FoundNumbers) : Type 0 where
  pub strengths : AreStrengths survey found.strengths
  pub unit_strengths : AreStrengths (record survey { weights = [] }) found.unit_strengths
  pub controls : AreControls survey found.controls
  pub blames : AreBlames survey found.controls found.blames
  pub effects : AllZip (λ entry effect. IsEffect survey (in_sights (sights_of entry)) effect) (entries_of books) found.effects
  pub benchmarks : AllZip (λ row effect. IsBenchmarkEffect survey row.0 effect) survey.benchmarks found.benchmarks

-- The texts are the review of a survey, of its books and of the inputs, for this limit of blunders in units
-- of 10 nm. The heights in them are best, and the rest is what was found.
pub record AreReviewed (survey : Survey) (books : List BookReview) (spellings : Listed Spelling) (inputs : List NamedInput) (limit : ℤ) (texts : ReviewOutTexts) : Type 0 where
  pub answer : Best
  pub answers : IsBest survey answer
  pub found : FoundNumbers
  pub finds : AreFound survey books found
  pub printed : AreReviewTexts (found_rows survey (at_points_of survey answer.low) (at_points_of survey answer.high) found books spellings) inputs limit texts

-- these are the texts of a review with these reviews of its books, and of these inputs
abbrev pub ArePrintedOf : List BookReview → Listed Spelling → List NamedInput → ℤ → Survey → Texts → Type 0
ArePrintedOf reviews spellings inputs limit survey texts =
    (own : ReviewOutTexts) × AreReviewed survey reviews spellings inputs limit own × (texts ≡ in_order own)

-- what a run read of its books beside their observations, and the sums of all its inputs, from sources that told this
pub record AreReadFrom (tolds : Tolds) (reviews : List BookReview) (spellings : Listed Spelling) (sums : List Sum) : Type 0 where
  pub of_books : List Sum
  pub of_tables : List Sum
  pub books : AreReviewsOf 1 tolds.books reviews spellings of_books
  pub tables : AreTablesSummed tolds.benchmarks tolds.weights [] of_tables
  pub all : sums ≡ of_books ++ of_tables

-- a run that ends in a review of this survey, of the books that sources told and of the inputs with these names, writes these texts
abbrev pub AreOfReview : List (List ℕ) → Tolds → ℤ → Survey → Texts → Type 0
AreOfReview names tolds limit survey texts =
    (reviews : List BookReview) × (spellings : Listed Spelling) × (sums : List Sum) × AreReadFrom tolds reviews spellings sums
    × ArePrintedOf reviews spellings (zip names sums) limit survey texts
