-- All remarks on a survey and its residuals.
use Rattle.std.specs.Prelude.{◌≡◌, ℤ, List, [], None}
use Rattle.th_network.specs.Networks.{Survey}
use Rattle.th_remarks.specs.Alike.{alike_in}
use Rattle.th_remarks.specs.Marks.{IsMarksNote}
use Rattle.th_remarks.specs.Outliers.{IsOutlierNote}
use Rattle.th_remarks.specs.Repeats.{AreRepeatNotes}
use Rattle.th_remarks.specs.declared.collected.Remarks.{Remarks}

-- nothing is remarked
pub record IsSilent (remarks : Remarks) : Type 0 where
  pub repeats : remarks.repeats.items ≡ []
  pub heights : remarks.heights ≡ None
  pub marks : remarks.marks ≡ None
  pub outlier : remarks.outlier ≡ None
  pub alike : remarks.alike.items ≡ []

-- the remarks on the books and the names of a survey
pub record AreOfSurvey (survey : Survey) (remarks : Remarks) : Type 0 where
  pub repeats : AreRepeatNotes survey.observations remarks.repeats.items
  pub alike : remarks.alike.items ≡ alike_in survey

-- the remarks on residuals, for a limit of blunders in units of 10 nm
pub record AreOfResiduals (survey : Survey) (residuals : List ℤ) (limit : ℤ) (remarks : Remarks) : Type 0 where
  pub marks : IsMarksNote limit residuals remarks.marks
  pub outlier : IsOutlierNote survey residuals limit remarks.outlier
