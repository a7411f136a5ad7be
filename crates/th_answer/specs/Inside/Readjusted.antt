-- The heights and the marks that are listed of a survey with a row put right.
use Rattle.std.specs.Prelude.{◌≡◌, ℕ, ◌*◌, ◌<◌, ◌≤◌, ℤ, List, All, Option, Some, None, map, unsigned_abs}
use Rattle.std.specs.List.{AllZip}
use Rattle.th_entries.specs.declared.entries.Entry.{Entry}
use Rattle.th_blunders.specs.Blunders.{is_blunder}
use Rattle.th_blunders.specs.Residuals.{residuals}
use Rattle.th_changes.specs.Reach.{reach_of}
use Rattle.th_changes.specs.declared.numbers.Number.{Number}
use Rattle.th_circulation.specs.Extremes.{AreLowest}
use Rattle.th_explain_texts.specs.declared.rows.Row.{Row}
use Rattle.th_explain_texts.specs.declared.rows.Values.{Values}
use Rattle.th_network.specs.Limits.{height_limit}
use Rattle.th_network.specs.Networks.{AreAtPoints, Survey, at_points_of, points_of}
use Rattle.th_answer.specs.Answers.{those_corrected}
use Rattle.th_answer.specs.Corrected.{Corrected, IsCorrectedOrNone}
use Rattle.th_answer.specs.Groups.{is_marked_then}
use Rattle.th_answer.specs.Remedies.{IsPossible, mildest_growth, observation_with, survey_with}
use Rattle.th_answer.specs.declared.correcting.Readjusted.{Readjusted}
use Rattle.th_answer.specs.declared.remedies.Remedy.{Remedy}

-- a survey is adjusted: its lowest best heights, and which observations are marked at them
pub record IsAdjusted (survey : Survey) (limit : ℤ) (own : Readjusted) : Type 0 where
  pub at_points : AreAtPoints survey own.heights.items
  pub lowest : AreLowest survey (at_points_of survey own.heights.items)
  pub marks : own.marks.items ≡ map (is_blunder limit) (residuals survey.observations (at_points_of survey own.heights.items))

-- the heights of a survey with a row put right are listed in point order, and the marks in the order of the observations
pub record IsListed (survey : Survey) (limit : ℤ) (after : Corrected) (own : Readjusted) : Type 0 where
  pub heights : own.heights.items ≡ map after.heights (points_of survey)
  pub marks : own.marks.items ≡ map (λ o. is_marked_then limit o after) survey.observations
  pub in_range : All (λ height. unsigned_abs height < 2 * height_limit) own.heights.items

-- the survey with a remedy, adjusted
pub record IsWith (survey : Survey) (entries : List Entry) (limit : ℤ) (remedy : Remedy) (own : Readjusted) : Type 0 where
  pub possible : IsPossible survey entries remedy
  pub heights : List ℕ → ℤ
  pub lowest : AreLowest (survey_with entries remedy survey) heights
  pub listed : IsListed survey limit (record { observation = observation_with entries remedy; heights = heights }) own

abbrev pub IsWithOrNone : Survey → List Entry → ℤ → Remedy → Option Readjusted → Type 0
IsWithOrNone survey entries limit remedy None = ¬ IsPossible survey entries remedy
IsWithOrNone survey entries limit remedy (Some own) = IsWith survey entries limit remedy own

-- how much a number grows that gets the mildest of its values, if that is within reach
pub record IsGrowth (survey : Survey) (number : Number) (values : Values) (growth : ℤ) : Type 0 where
  pub mildest : growth ≡ mildest_growth values
  pub within : unsigned_abs growth ≤ reach_of number survey.observations

abbrev pub IsGrowthOrNone : Survey → Number → Values → Option ℤ → Type 0
IsGrowthOrNone survey number values None = ¬ (unsigned_abs (mildest_growth values) ≤ reach_of number survey.observations)
IsGrowthOrNone survey number values (Some growth) = IsGrowth survey number values growth

-- a row is put right
pub record IsReadjusted (survey : Survey) (entries : List Entry) (limit : ℤ) (row : Row) (own : Readjusted) : Type 0 where
  pub after : Corrected
  pub corrected : IsCorrectedOrNone survey entries row (Some after)
  pub listed : IsListed survey limit after own

abbrev pub IsReadjustedOrNone : Survey → List Entry → ℤ → Row → Option Readjusted → Type 0
IsReadjustedOrNone survey entries limit row None = IsCorrectedOrNone survey entries row None
IsReadjustedOrNone survey entries limit row (Some own) = IsReadjusted survey entries limit row own

-- rows are put right, one after another
pub record AreReadjusted (survey : Survey) (entries : List Entry) (limit : ℤ) (rows : List Row) (listed : List Readjusted) : Type 0 where
  pub corrected : List (Option Corrected)
  pub are_corrected : AllZip (IsCorrectedOrNone survey entries) rows corrected
  pub are_listed : AllZip (IsListed survey limit) (those_corrected corrected) listed
