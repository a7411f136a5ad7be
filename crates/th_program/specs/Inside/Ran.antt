-- What the run of a command over a survey has done before its outputs have their places.
use Rattle.std.specs.List.{Contains}
use Rattle.std.specs.Prelude.{◌≡◌, ℕ, Bool, IfErr, List, None, OnOk, Result, Some, is_some, length}
use Rattle.th_commands.specs.Asked.{Files}
use Rattle.th_devices.specs.Devices.{SinkState}
use Rattle.th_devices.specs.Folders.{Failing}
use Rattle.th_devices.specs.Spots.{Spot}
use Rattle.th_files.specs.Opened.{AreMade}
use Rattle.th_files.specs.Outputs.{spots_of}
use Rattle.th_files.specs.Owed.{Told, survey_owed}
use Rattle.th_network.specs.Networks.{Survey}
use Rattle.th_program.specs.Done.{IsPrinted, IsRefusedFor}
use Rattle.th_program.specs.Failing.{HasCause, IsInFiles}
use Rattle.th_run_parts.specs.Outcomes.{PrintedOutcome}
use Rattle.th_run_parts.specs.Reads.{IsNamed, Run, refused}
use Rattle.th_run_parts.specs.Writes.{Texts, UnlessWrite}
use Rattle.th_run_parts.specs.declared.refusals.Refusal.{Refusal}
use Rattle.th_runs.specs.Commands.{AreFor}

-- The run of a command over the named files ended with this answer: the sinks that a folder made for its outputs have what it wrote. A refusal names a device
-- of this run, and one that blames a device has a cause.
pub record HasRun {K : Type 0} (state_of : K → SinkState) (tells : Bool) (failing : Failing) (told : Told) (from : Files) (prefix : List ℕ) (run : Run)
    (AreOf : Survey → Texts → Type 0) (answer : Result (Unit {0}) Refusal) (sinks : List K) : Type 0 where
  pub made : List K
  pub are_made : AreMade state_of tells failing.writing (spots_of prefix run.outputs) made
  pub are_for : (survey : Survey) (texts : Texts) → AreOf survey texts → AreFor run texts
  pub outcome : PrintedOutcome state_of (survey_owed told (refused answer) from) AreOf answer made sinks
  pub named : IfErr answer (IsNamed (length from.books) (is_some from.weights) run)
  pub caused : IfErr answer (HasCause failing (IsInFiles from) prefix)

-- What such a run leaves once its files have their places. The files have its texts, unless it is refused. A refusal that is no failed write leaves all as it was,
-- and in any case only the files of its outputs change.
pub record HasWrittenFiles {F : Type 0} (tells : Bool) (held : F → Told) (failing : F → Failing) (old new : F) (from : Files) (prefix : List ℕ) (run : Run)
    (AreOf : Survey → Texts → Type 0) (result : Result (Unit {0}) Refusal) : Type 0 where
  pub printed : OnOk result (IsPrinted tells (held old) (held new) from prefix run.outputs AreOf None)
  pub refused : IfErr result (λ own. IsRefusedFor run from (λ survey. survey) (survey_owed (held old) (Some own) from)
      (IsPrinted tells (held old) (held new) from prefix run.outputs AreOf) (HasCause (failing old) (IsInFiles from) prefix) own)
  pub untouched : IfErr result (λ own. UnlessWrite own (new ≡ old))
  pub others : (spot : Spot) → (Contains (spots_of prefix run.outputs) spot → ⊥) → held new spot ≡ held old spot
