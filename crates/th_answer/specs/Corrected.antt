-- A survey in which a row that explains most is put right, and adjusted again.
use Rattle.std.specs.Prelude.{◌≡◌, ℕ, ℤ, List, Option, Some, None}
use Rattle.th_observations.specs.Observed.{Observed}
use Rattle.th_entries.specs.declared.entries.Entry.{Entry}
use Rattle.th_circulation.specs.Extremes.{AreLowest}
use Rattle.th_explain_texts.specs.declared.rows.Row.{Row}
use Rattle.th_network.specs.Networks.{Survey}
use Rattle.th_answer.specs.Remedies.{IsPossible, observation_with, remedy_of, survey_with}
use Rattle.th_answer.specs.declared.remedies.Remedy.{Remedy}

-- what becomes of an observation, and the lowest best heights then
pub record Corrected : Type 0 where
  pub observation : Observed → Observed
  pub heights : List ℕ → ℤ

-- a row is put right
pub record IsCorrected (survey : Survey) (entries : List Entry) (row : Row) (own : Corrected) : Type 0 where
  pub remedy : Remedy
  pub is_of : remedy_of entries row ≡ Some remedy
  pub possible : IsPossible survey entries remedy
  pub observation : own.observation ≡ observation_with entries remedy
  pub lowest : AreLowest (survey_with entries remedy survey) own.heights

-- A row is put right, if it can be. One that has no number, or whose change is beyond reach, moves no height and clears no mark.
abbrev pub IsCorrectedOrNone : Survey → List Entry → Row → Option Corrected → Type 0
IsCorrectedOrNone survey entries row None = (remedy : Remedy) → remedy_of entries row ≡ Some remedy → ¬ IsPossible survey entries remedy
IsCorrectedOrNone survey entries row (Some own) = IsCorrected survey entries row own
