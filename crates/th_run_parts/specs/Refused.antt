-- What a part of a run states about its result.
use Rattle.std.specs.Prelude.{Result, Ok, Err}
use Rattle.th_network.specs.Networks.{Survey}
use Rattle.th_run_parts.specs.Inputs.{HasNetFault, MakesNetwork}
use Rattle.th_run_parts.specs.Writes.{Broken, Stage, Whole}
use Rattle.th_run_parts.specs.declared.refusals.Refusal.{Refusal}
use Rattle.th_run_parts.specs.declared.refusals.Refusal.TheVariants as refusal

-- a refusal for the fault of a survey's network, or out of memory
abbrev pub IsNetRefusal : Survey → Refusal → Type 0
IsNetRefusal survey (refusal.Network fault) = HasNetFault survey fault
IsNetRefusal survey refusal.NoMemory = Unit {0}
IsNetRefusal survey other = ⊥

-- a result that fulfils `P`, for a survey that makes a network; or a refusal for the fault of its network, or out of memory
abbrev pub IsOfNetwork : {X : Type 0} → Survey → (X → Type 0) → Result X Refusal → Type 0
IsOfNetwork survey P (Ok x) = MakesNetwork survey × P x
IsOfNetwork survey P (Err own) = IsNetRefusal survey own

-- the stage of an output whose write had this result
abbrev pub stage_of : {X : Type 0} → Result X Refusal → Stage
stage_of (Ok x) = Whole
stage_of (Err own) = Broken
