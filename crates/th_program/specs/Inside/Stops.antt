-- What stops a plan.
use Rattle.std.specs.Prelude.{Bool, string_bytes}
use Rattle.th_files.specs.declared.overwrites.Stop.{Stop}
use Rattle.th_files.specs.declared.overwrites.Stop.TheVariants as stop
use Rattle.th_commands.specs.declared.plans.Plan.{Plan}
use Rattle.th_program.specs.Done.{WouldOverwrite}

-- an output of the plan would change an input of it, or memory ran out
abbrev pub IsStopOf : Bool → Plan → Stop → Type 0
IsStopOf tells asked (stop.Overwrite own) = WouldOverwrite tells asked (string_bytes own.output) own.input own.name.now
IsStopOf tells asked stop.NoMemory = Unit {0}
