-- The texts of a review as functions of what was found.
use Rattle.std.specs.Prelude.{◌≡◌, ℕ, ℤ, List}
use Rattle.th_inputs.specs.Inputs.{NamedInput}
use Rattle.th_review_rows.specs.Found.{FoundRows}
use Rattle.th_review_texts.specs.Reviews.{review_text}
use Rattle.th_review_texts.specs.Tables.{benchmarks_text, entries_text, observations_text, points_text}
use Rattle.th_review_texts.specs.declared.texts.ReviewTexts.{ReviewTexts}

-- the bytes of the texts of a review
pub record ReviewOutTexts : Type 0 where
  pub points : List ℕ
  pub observations : List ℕ
  pub entries : List ℕ
  pub benchmarks : List ℕ
  pub review : List ℕ

abbrev pub bytes_of : ReviewTexts → ReviewOutTexts
bytes_of texts = record {
  points = texts.points.items;
  observations = texts.observations.items;
  entries = texts.entries.items;
  benchmarks = texts.benchmarks.items;
  review = texts.review.items;
}

-- the texts of a review, given what was found, the inputs, and the limit of blunders
pub record AreReviewTexts (found : FoundRows) (inputs : List NamedInput) (limit : ℤ) (texts : ReviewOutTexts) : Type 0 where
  pub points : texts.points ≡ points_text found.points
  pub observations : texts.observations ≡ observations_text found.observations
  pub entries : texts.entries ≡ entries_text found.entries
  pub benchmarks : texts.benchmarks ≡ benchmarks_text found.benchmarks
  pub review : texts.review ≡ review_text found inputs limit
