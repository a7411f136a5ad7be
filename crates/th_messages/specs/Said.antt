-- What standard error has after a run.
use Rattle.std.specs.Prelude.{◌++◌, ◌∷◌, [], ℕ, Bool, List, None, codes}
use Rattle.th_devices.specs.Spots.{errors}
use Rattle.th_files.specs.Outputs.{Holds}
use Rattle.th_files.specs.Owed.{Told}
use Rattle.th_inputs.specs.Shown.{shown}
use Rattle.th_messages.specs.Helped.{refused_lines}
use Rattle.th_commands.specs.declared.plans.Plan.{Plan}
use Rattle.th_inputs.specs.Inputs.{input_text}
use Rattle.th_inputs.specs.declared.inputs.Input.{Input}
use Rattle.th_inputs.specs.declared.inputs.Input.TheVariants.{Book}
use Rattle.th_run_parts.specs.declared.refusals.Refusal.{Refusal}

-- standard error has this line and nothing else
abbrev pub IsSaid : Bool → Told → List ℕ → Type 0
IsSaid tells told line = Holds tells told errors (line ++ 10 ∷ [])

-- standard error has the lines of a refusal, without a reason: a folder that reports its bytes knows none
abbrev pub IsReported : Bool → Told → Plan → Refusal → Type 0
IsReported tells told asked own = Holds tells told errors (refused_lines asked own None)

-- what helps where an output would overwrite an input
abbrev pub overwrite_help : Input → List ℕ
overwrite_help (Book number) = codes "leave it out, or give another prefix"
overwrite_help other = codes "give another prefix"

-- the line that an output would overwrite an input, without its line feed; names are shown so that they send nothing to a terminal
abbrev pub overwrite_text : List ℕ → Input → List ℕ → List ℕ
overwrite_text written which name = codes "error: output " ++ shown written ++ codes " would overwrite " ++ input_text which ++ codes " " ++ shown name

-- and the second line, what helps
abbrev pub overwrite_lines : List ℕ → Input → List ℕ → List ℕ
overwrite_lines written which name = overwrite_text written which name ++ codes "\n  " ++ overwrite_help which
