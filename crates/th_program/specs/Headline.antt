-- The terms of the headline: inputs that are accepted, how an adjustment and a check may end, and what may still stop them.
use Rattle.std.specs.Prelude.{◌≡◌, ◌<◌, ◌⊎◌, ℕ, ℤ, Bool, true, List, Some, None, Ok, length}
use Rattle.std.specs.List.{Contains}
use Rattle.th_network.specs.Networks.{Survey}
use Rattle.th_checker.specs.declared.verdicts.Verdict.{Verdict}
use Rattle.th_commands.specs.Asked.{Asked, Files}
use Rattle.th_commands.specs.Plans.{AreTaken, asked}
use Rattle.th_run_parts.specs.Inputs.{MakesNetwork}
use Rattle.th_devices.specs.Spots.{Spot, file}
use Rattle.th_devices.specs.Folders.{Failing}
use Rattle.th_program.specs.Done.{IsAdjustOutput, IsAdjusted, IsChecked, IsRefusedAdjust, IsRefusedCheck}
use Rattle.th_program.specs.Failing.{Origins}
use Rattle.th_files.specs.Owed.{HasName, Told, survey_owed}
use Rattle.th_run_parts.specs.Refusals.{status_of, status_of_verdict}
use Rattle.th_inputs.specs.declared.inputs.Input.{Input}
use Rattle.th_run_parts.specs.declared.refusals.Refusal.{Refusal}

-- the arguments, the program's name first, request this
abbrev pub AskFor : List (List ℕ) → Asked → Type 0
AskFor words wanted = (1 < length words) × AreTaken words × (asked words ≡ Some wanted)

-- the named inputs are accepted: none has a fault, and their survey makes a network
pub record IsAccepted (told : Told) (from : Files) (survey : Survey) : Type 0 where
  pub given : survey_owed told None from ≡ Some (Ok survey)
  pub network : MakesNetwork survey

-- no file that an adjustment with this prefix writes is one that it reads
abbrev pub SparesInputs : Files → List ℕ → Type 0
SparesInputs from prefix = (which : Input) (name : List ℕ) → HasName from which name → IsAdjustOutput prefix (file name) → ⊥

-- a device may fail of a run with these origins of its inputs and these spots of its outputs
abbrev pub SomeMayFail : Failing → Origins → List Spot → Type 0
SomeMayFail failing origins written =
    ((which : Input) × (spot : Spot) × origins which spot × (failing.reading spot ≡ true))
    ⊎ ((spot : Spot) × Contains written spot × (failing.writing spot ≡ true))

-- no device of such a run may fail
abbrev pub NoneMayFail : Failing → Origins → List Spot → Type 0
NoneMayFail failing origins written = SomeMayFail failing origins written → ⊥

-- the status of a run that was out of memory, 4, or whose device failed, 5, if some device of it may
abbrev pub IsUnlucky : Type 0 → ℕ → Type 0
IsUnlucky MayFail status = (status ≡ 4) ⊎ ((status ≡ 5) × MayFail)

-- How an adjustment may end: done, with status 0; refused, with the status of its refusal; with 3, and then it would write to a file that it
-- reads, if the folder reports its bytes; or with 4. Of the files this states nothing with 3 and 4: `IsRun` states that nothing was begun.
abbrev pub IsEndedAdjust : Bool → Failing → Told → Told → Files → ℤ → List ℕ → ℕ → Type 0
IsEndedAdjust tells failing old new from limit prefix status =
    ((status ≡ 0) × IsAdjusted tells old new from limit prefix None)
    ⊎ ((own : Refusal) × (status ≡ status_of own) × IsRefusedAdjust tells failing old new from limit prefix own)
    ⊎ ((status ≡ 3) × (tells ≡ true → SparesInputs from prefix → ⊥))
    ⊎ (status ≡ 4)

-- How a check may end: done, with the status of its verdict; refused, with the status of its refusal; or with 4. It writes to no file, so it
-- cannot overwrite an input.
abbrev pub IsEndedCheck : Bool → Failing → Told → Told → Files → List ℕ → ℕ → Type 0
IsEndedCheck tells failing old new from certificate status =
    ((verdict : Verdict) × (status ≡ status_of_verdict verdict) × IsChecked tells old new from certificate verdict)
    ⊎ ((own : Refusal) × (status ≡ status_of own) × IsRefusedCheck failing old from certificate own)
    ⊎ (status ≡ 4)
