-- What explanations mean for the sights, heights and benchmarks of a survey.
use Rattle.std.specs.Prelude.{◌≡◌, ℕ, ℤ, List, Option, length, map, option_to_list, take}
use Rattle.std.specs.List.{AllZip, filter_map, flat_map}
use Rattle.th_entries.specs.declared.reviews.BookReview.{BookReview}
use Rattle.th_blunders.specs.Residuals.{residuals}
use Rattle.th_circulation.specs.Extremes.{AreLowest}
use Rattle.th_explain_texts.specs.Sentences.{firsts}
use Rattle.th_explain_texts.specs.declared.rows.Row.{Row}
use Rattle.th_network.specs.Networks.{Survey, points_of}
use Rattle.th_remarks.specs.Outliers.{IsOutlierNote, IsUsualOrNone, weighed}
use Rattle.th_review_rows.specs.Entries.{entries_of}
use Rattle.th_answer.specs.Corrected.{Corrected, IsCorrectedOrNone}
use Rattle.th_answer.specs.Groups.{Judged, group_of, nothing_is_wrong}
use Rattle.th_answer.specs.Limits.{asked_benchmarks}
use Rattle.th_answer.specs.Moved.{drawn_by, moved_of}
use Rattle.th_answer.specs.Others.{IsSaid}
use Rattle.th_answer.specs.Remedies.{remedy_of}
use Rattle.th_answer.specs.declared.answers.Answer.{Answer}

-- the rows that are put right
abbrev pub those_corrected : List (Option Corrected) → List Corrected
those_corrected corrected = flat_map option_to_list corrected

-- what the sights of a survey are judged by, given its reviews, the rows of explanations, the survey with each first row put right, and the usual size
abbrev pub judged_by : Survey → (List ℕ → ℤ) → ℤ → List BookReview → List Row → List (Option Corrected) → Option ℕ → Judged
judged_by survey heights limit reviews rows corrected usual = record {
  survey = survey;
  heights = heights;
  limit = limit;
  remedies = filter_map (remedy_of (entries_of reviews)) (firsts rows);
  corrected = those_corrected corrected;
  is_quiet = nothing_is_wrong survey heights limit (length (firsts rows));
  usual = usual;
}

-- what the rows of explanations mean for a survey whose books have these reviews; those with number 1, the first ones, are put right one after another
pub record IsAnswer (survey : Survey) (reviews : List BookReview) (rows : List Row) (limit : ℤ) (answer : Answer) : Type 0 where
  pub heights : List ℕ → ℤ
  pub lowest : AreLowest survey heights
  pub corrected : List (Option Corrected)
  pub are_corrected : AllZip (IsCorrectedOrNone survey (entries_of reviews)) (firsts rows) corrected
  pub usual : Option ℕ
  pub is_usual : IsUsualOrNone (weighed survey (residuals survey.observations heights)) usual
  pub groups : answer.groups.items ≡ map (group_of (judged_by survey heights limit reviews rows corrected usual)) survey.observations
  pub moved : answer.moved.items ≡ map (moved_of limit heights (those_corrected corrected)) (points_of survey)
  pub drawn : answer.drawn.items ≡ map (drawn_by heights corrected) (points_of survey)
  pub others : AllZip (IsSaid survey) (take (asked_benchmarks (length survey.observations)) survey.benchmarks) answer.others.items
  pub outlier : IsOutlierNote survey (residuals survey.observations heights) limit answer.outlier
