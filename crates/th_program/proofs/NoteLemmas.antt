-- The notes of a run, once its outputs have their places.
use Rattle.std.proofs.Common.{◌≡◌, ◌≤◌, ◌+◌, ◌∷◌, ℕ, ℤ, Bool, List, [], None, Some, Ok, Err, length, map, ap, subst, arith, length-append}
use Rattle.std.specs.Prelude.{OnOk, Option, Result, option_to_list}
use Rattle.th_devices.specs.Devices.{SinkState}
use Rattle.th_devices.specs.Spots.{Spot, file}
use Rattle.th_devices.specs.Folders.{Failing}
use Rattle.std.proofs.lemmas.List.{length-map}
use Rattle.std.proofs.lemmas.Slice.Zip.{AllZip-long}
use Rattle.th_entries.specs.Reviews.{parsed_of}
use Rattle.th_entries.specs.Several.{numbered}
use Rattle.th_entries.specs.Sights.{no_sight_in}
use Rattle.th_entries.specs.declared.sights.NoSight.{NoSight}
use Rattle.th_network.specs.Networks.{Survey}
use Rattle.th_commands.specs.Asked.{Files}
use Rattle.th_commands.specs.PlanLimits.{max_books}
use Rattle.th_files.specs.Opened.{AreGivenBack}
use Rattle.th_program.specs.Noted.{AreNotesOfFiles}
use Rattle.th_files.specs.Owed.{Told, survey_owed, tolds_in}
use Rattle.th_run_parts.specs.Inputs.{Owed}
use Rattle.th_runs.specs.Noted.{AreNotesOfAdjustment, AreSightless, sightless}
use Rattle.th_run_parts.specs.Outcomes.{Accepted}
use Rattle.th_run_parts.specs.Reads.{refused}
use Rattle.th_run_parts.specs.Summed.{Tolds}
use Rattle.th_runs.specs.declared.notes.Notes.{Notes}
use Rattle.th_run_parts.specs.declared.outputs.Output.{Output}
use Rattle.th_run_parts.specs.declared.refusals.Refusal.{Refusal}

-- what holds of a run that ended well holds if its files have their places
pub noted_given : {F : Type 0} (tells : Bool) (held : F → Told) (has_failed : F → Spot → Bool) (failing : F → Failing) (sinks : List SinkState) (outputs : List Output)
    (answer result : Result (Unit {0}) Refusal) (before after : F) (P : Type 0) → AreGivenBack tells held has_failed failing sinks outputs answer result before after
    → OnOk answer P → OnOk result P
noted_given tells held has_failed failing sinks outputs (Ok x) (Ok y) before after P given holds = holds
noted_given tells held has_failed failing sinks outputs (Ok x) (Err own) before after P given holds = tt
noted_given tells held has_failed failing sinks outputs (Err own) (Ok y) before after P (same, kept) holds = absurd (cc same)
noted_given tells held has_failed failing sinks outputs (Err own) (Err other) before after P (same, kept) holds = tt

-- what a run notes of its sources it notes of the named files
pub noted_opened : (told : Told) (from : Files) (HasNoted : Tolds → Survey → Type 0) (owed : Owed Survey) (tolds : Tolds) (result : Result (Unit {0}) Refusal)
    → owed ≡ survey_owed told (refused result) from → tolds ≡ tolds_in told from
    → OnOk result ((survey : Survey) × Accepted (λ (survey : Survey). survey) owed survey × HasNoted tolds survey)
    → OnOk result ((survey : Survey) × Accepted (λ (survey : Survey). survey) (survey_owed told None from) survey × HasNoted (tolds_in told from) survey)
noted_opened told from HasNoted owed tolds (Ok x) is are (survey, accepted, noted) = (
  survey,
  subst (λ (known : Owed Survey). Accepted (λ (survey : Survey). survey) known survey) is accepted,
  subst (λ own. HasNoted own survey) are noted,
)
noted_opened told from HasNoted owed tolds (Err own) is are noted = tt

-- as the notes of an adjustment
pub noted_files : (told : Told) (from : Files) (limit : ℤ) (notes : Notes) (result : Result (Unit {0}) Refusal)
    → OnOk result ((survey : Survey) × Accepted (λ (survey : Survey). survey) (survey_owed told None from) survey × AreNotesOfAdjustment (tolds_in told from).books limit survey notes)
    → OnOk result (AreNotesOfFiles told from limit notes)
noted_files told from limit notes (Ok x) (survey, accepted, noted) = record { survey = survey; given = accepted.given; network = accepted.network; noted = noted }
noted_files told from limit notes (Err own) noted = tt

-- no more books are noted than there are
few_sightless : (number : ℕ) (texts : List (List ℕ)) → length (sightless (numbered number texts)) ≤ length texts
few_sightless number [] = omega arith
few_sightless number (text ∷ texts) =
    let own = option_to_list (no_sight_in number (parsed_of text)) in
    let more = sightless (numbered (number + 1) texts) in
    omega (arith, length-append own more, one (no_sight_in number (parsed_of text)), few_sightless (number + 1) texts)
  where
    one : (note : Option NoSight) → length (option_to_list note) ≤ 1
    one None = omega arith
    one (Some note) = omega arith

pub few_of : (number : ℕ) (tolds : List (Option (List ℕ))) (notes : List NoSight) → AreSightless number tolds notes → length notes ≤ length tolds
few_of number tolds notes noted =
    omega (arith, ap length noted.noted, few_sightless number noted.texts, AllZip-long _ tolds noted.texts noted.told)

pub few_noted : (told : Told) (from : Files) (limit : ℤ) (notes : Notes) (result : Result (Unit {0}) Refusal) → OnOk result (length from.books ≤ max_books)
    → OnOk result ((survey : Survey) × Accepted (λ (survey : Survey). survey) (survey_owed told None from) survey × AreNotesOfAdjustment (tolds_in told from).books limit survey notes)
    → OnOk result (length notes.books.items ≤ max_books)
few_noted told from limit notes (Ok x) few (survey, accepted, noted) =
    omega (arith, few, few_of 1 (tolds_in told from).books notes.books.items noted.books, length-map from.books (λ name. told (file name)))
few_noted told from limit notes (Err own) few noted = tt
