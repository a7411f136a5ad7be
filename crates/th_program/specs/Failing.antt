-- Where a run reads its inputs, and what a failed device shows of the folder.
use Rattle.std.specs.Prelude.{◌≡◌, ℕ, true, List}
use Rattle.th_devices.specs.Spots.{Spot, file}
use Rattle.th_devices.specs.Folders.{Failing}
use Rattle.th_commands.specs.Asked.{Files}
use Rattle.th_files.specs.Outputs.{spot_at}
use Rattle.th_files.specs.Owed.{HasName}
use Rattle.th_run_parts.specs.Outputs.{ending_of}
use Rattle.th_inputs.specs.declared.inputs.Input.{Input}
use Rattle.th_inputs.specs.declared.inputs.Input.TheVariants as input
use Rattle.th_run_parts.specs.declared.refusals.Refusal.{Refusal}
use Rattle.th_run_parts.specs.declared.refusals.Refusal.TheVariants as refusal

-- where a run reads its inputs
abbrev pub Origins : Type 1
Origins = Input → Spot → Type 0

-- an input of a run over these files is at this spot
abbrev pub IsInFiles : Files → Origins
IsInFiles from which (file name) = HasName from which name
IsInFiles from which other = ⊥

-- an input of a check of this certificate is at this spot
abbrev pub IsInClaim : Files → List ℕ → Origins
IsInClaim from certificate input.Certificate spot = spot ≡ file certificate
IsInClaim from certificate which spot = IsInFiles from which spot

-- the table of changes and the book of a run that mends are at this spot
abbrev pub IsInMending : List ℕ → List ℕ → Origins
IsInMending changes book input.Changes spot = spot ≡ file changes
IsInMending changes book which spot = spot ≡ file book

-- A refusal that blames a device has a cause in the folder: reading may fail at the spot of the input, or writing at the spot of the output.
abbrev pub HasCause : Failing → Origins → List ℕ → Refusal → Type 0
HasCause failing origins prefix (refusal.Read which) = (spot : Spot) × origins which spot × (failing.reading spot ≡ true)
HasCause failing origins prefix (refusal.Write which) = failing.writing (spot_at prefix (ending_of which)) ≡ true
HasCause failing origins prefix other = Unit {0}
