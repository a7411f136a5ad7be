-- What stops a run stops its plan.
use Rattle.std.proofs.Common.{Bool, List, string_bytes, ℕ}
use Rattle.std.specs.List.{Contains}
use Rattle.th_devices.specs.Spots.{Spot, file}
use Rattle.th_files.specs.Owed.{HasName}
use Rattle.th_files.specs.Stops.{IsStop}
use Rattle.th_files.specs.declared.overwrites.Stop.{Stop}
use Rattle.th_files.specs.declared.overwrites.Stop.TheVariants as stop
use Rattle.th_commands.specs.Asked.{Files}
use Rattle.th_commands.specs.declared.plans.Plan.{Plan}
use Rattle.th_program.specs.Done.{IsInputOf, IsOutputOf}
use Rattle.th_program.specs.Inside.Stops.{IsStopOf}
use Rattle.th_inputs.specs.declared.inputs.Input.{Input}

-- what stops a run with these outputs and inputs stops their plan
pub stop_of : (tells : Bool) (asked : Plan) (from : Files) (spots : List Spot) → ((name : List ℕ) → Contains spots (file name) → IsOutputOf asked (file name))
    → ((which : Input) (name : List ℕ) → HasName from which name → IsInputOf asked which name) → (own : Stop) → IsStop tells from spots own → IsStopOf tells asked own
stop_of tells asked from spots written read (stop.Overwrite own) is = record {
  is_written = written (string_bytes own.output) is.0;
  is_read = read own.input own.name.now is.1;
  same = is.2;
}
stop_of tells asked from spots written read stop.NoMemory is = tt
