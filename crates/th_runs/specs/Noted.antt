-- What is noted of a run that was not refused.
use Rattle.std.specs.Prelude.{◌≡◌, ℕ, ℤ, List, [], ◌∷◌, Option, flat_map, option_to_list}
use Rattle.th_book.specs.Lines.{ParsedLine}
use Rattle.th_circulation.specs.Best.{Best, IsBest}
use Rattle.th_entries.specs.Several.{numbered}
use Rattle.th_entries.specs.Sights.{no_sight_in}
use Rattle.th_entries.specs.declared.sights.NoSight.{NoSight}
use Rattle.th_blunders.specs.Residuals.{residuals}
use Rattle.th_network.specs.Networks.{Survey, at_points_of}
use Rattle.th_remarks.specs.Heights.{IsHeightsNote}
use Rattle.th_remarks.specs.Remarks.{AreOfResiduals, AreOfSurvey, IsSilent}
use Rattle.th_remarks.specs.declared.collected.Remarks.{Remarks}
use Rattle.th_run_parts.specs.Inputs.{AreTold}
use Rattle.th_runs.specs.declared.notes.Notes.{Notes}

-- nothing is noted yet
pub record AreNone (notes : Notes) : Type 0 where
  pub books : notes.books.items ≡ []
  pub remarks : IsSilent notes.remarks

-- the numbered books that have blocks and no sight
abbrev pub sightless : List (ℕ × List ParsedLine) → List NoSight
sightless books = flat_map (λ book. option_to_list (no_sight_in book.0 book.1)) books

-- the books without a sight are noted of those with the texts that sources gave, numbered from this one on
pub record AreSightless (number : ℕ) (tolds : List (Option (List ℕ))) (notes : List NoSight) : Type 0 where
  pub texts : List (List ℕ)
  pub told : AreTold tolds texts
  pub noted : notes ≡ sightless (numbered number texts)

-- the remarks on a survey, for this limit of blunders in units of 10 nm: on its books and names, on best heights that are not unique, and on the residuals at the lowest
pub record AreRemarks (survey : Survey) (limit : ℤ) (remarks : Remarks) : Type 0 where
  pub books : AreOfSurvey survey remarks
  pub best : Best
  pub is_best : IsBest survey best
  pub heights : IsHeightsNote survey best.low best.high limit remarks.heights
  pub residuals : AreOfResiduals survey (residuals survey.observations (at_points_of survey best.low)) limit remarks

-- the notes of a list of a book
pub record AreNotesOfList (told : Option (List ℕ)) (notes : Notes) : Type 0 where
  pub books : AreSightless 1 (told ∷ []) notes.books.items
  pub remarks : IsSilent notes.remarks

-- the notes of an adjustment of a survey
pub record AreNotesOfAdjustment (tolds : List (Option (List ℕ))) (limit : ℤ) (survey : Survey) (notes : Notes) : Type 0 where
  pub books : AreSightless 1 tolds notes.books.items
  pub remarks : AreRemarks survey limit notes.remarks
