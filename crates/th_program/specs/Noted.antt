-- The notes of a run that was not refused, and their lines on standard error.
use Rattle.std.specs.Prelude.{ℤ, List, None, Ok, map}
use Rattle.th_devices.specs.Spots.{file, input}
use Rattle.th_network.specs.Networks.{Survey}
use Rattle.th_commands.specs.Asked.{Files}
use Rattle.th_commands.specs.Plans.{files}
use Rattle.th_commands.specs.declared.plans.Plan.{Plan}
use Rattle.th_commands.specs.declared.plans.Plan.TheVariants as plan
use Rattle.th_files.specs.Owed.{Told, survey_owed}
use Rattle.th_run_parts.specs.Inputs.{MakesNetwork, Meets}
use Rattle.th_runs.specs.Noted.{AreNone, AreNotesOfAdjustment, AreNotesOfList}
use Rattle.th_runs.specs.declared.notes.Notes.{Notes}

-- the notes of an adjustment of the survey in the named files
pub record AreNotesOfFiles (told : Told) (from : Files) (limit : ℤ) (notes : Notes) : Type 0 where
  pub survey : Survey
  pub given : Meets (survey_owed told None from) (Ok survey)
  pub network : MakesNetwork survey
  pub noted : AreNotesOfAdjustment (map (λ name. told (file name)) from.books) limit survey notes

-- the notes of what a plan requests; a list and an adjustment alone have some
abbrev pub AreNotesOf : Told → Plan → Notes → Type 0
AreNotesOf told plan.Standard notes = AreNotesOfList (told input) notes
AreNotesOf told (plan.List book) notes = AreNotesOfList (told (file book.now)) notes
AreNotesOf told (plan.Adjust inputs limit prefix) notes = AreNotesOfFiles told (files inputs) limit notes
AreNotesOf told other notes = AreNone notes
