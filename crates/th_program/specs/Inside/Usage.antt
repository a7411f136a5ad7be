-- Arguments that are no plan, where memory may run out before this is reported.
use Rattle.std.specs.Prelude.{◌⊎◌, ℕ}
use Rattle.th_commands.specs.declared.faults.PlanFault.{PlanFault}
use Rattle.th_commands.specs.declared.faults.PlanFault.TheVariants as fault
use Rattle.th_program.specs.Done.{IsUsage}
use Rattle.th_files.specs.Owed.{Told}

-- the fault was reported, or else that memory ran out
abbrev pub IsUsageUnlessFull : {F : Type 0} → (F → Told) → F → F → PlanFault → ℕ → Type 0
IsUsageUnlessFull held old new own status = IsUsage held old new own status ⊎ IsUsage held old new fault.NoMemory status
