-- The terms of the laws on each command: where its one input is, and outputs that spare its inputs.
use Rattle.std.specs.Prelude.{◌≡◌, ℕ, List}
use Rattle.std.specs.List.{Contains}
use Rattle.th_devices.specs.Spots.{Spot, file}
use Rattle.th_files.specs.Outputs.{spots_of}
use Rattle.th_files.specs.Owed.{HasName}
use Rattle.th_commands.specs.Asked.{Files}
use Rattle.th_program.specs.Failing.{Origins}
use Rattle.th_run_parts.specs.declared.outputs.Output.{Output}
use Rattle.th_inputs.specs.declared.inputs.Input.{Input}

-- all that a run reads is at this spot
abbrev pub IsReadAt : Spot → Origins
IsReadAt own which spot = spot ≡ own

-- none of these outputs of a run with this prefix is a file that it reads
abbrev pub OutputsSpare : List Output → Files → List ℕ → Type 0
OutputsSpare outputs from prefix = (which : Input) (name : List ℕ) → HasName from which name → Contains (spots_of prefix outputs) (file name) → ⊥
