-- Lines below what a survey costs as one number changes, and what two of them show.
use Rattle.std.specs.Prelude.{ℕ, ◌<◌, ◌≤◌, ℤ, pos, ◌+ℤ◌, ◌-ℤ◌, ◌*ℤ◌, ◌≤ℤ◌, List, unsigned_abs}
use Rattle.th_network.specs.Networks.{Survey}
use Rattle.th_changes.specs.declared.lines.Line.{Line}
use Rattle.th_changes.specs.declared.numbers.Number.{Number}
use Rattle.th_changes.specs.Freed.{Keeps, cost_of}
use Rattle.th_changes.specs.Numbers.{changed}

-- whatever the number is changed by, all heights cost at least as much as the line says: the cost without what is lost, and the net for each unit
abbrev pub IsLine : Survey → Number → ℕ → Line → Type 0
IsLine survey number cost line = (x : ℤ) (heights : List ℕ → ℤ) → Keeps (changed number x survey) heights → (pos cost -ℤ line.lost +ℤ x *ℤ line.net) ≤ℤ pos (cost_of (changed number x survey) heights)

-- if the number changes by more than the limit, the survey costs no less
abbrev pub IsCostlyBeyond : Survey → Number → ℕ → ℕ → Type 0
IsCostlyBeyond survey number cost limit = (x : ℤ) (heights : List ℕ → ℤ) → limit < unsigned_abs x → Keeps (changed number x survey) heights → cost ≤ cost_of (changed number x survey) heights

-- whatever the number is changed by, at least so much is left
abbrev pub LeavesAtLeast : Survey → Number → ℕ → Type 0
LeavesAtLeast survey number least = (x : ℤ) (heights : List ℕ → ℤ) → Keeps (changed number x survey) heights → least ≤ cost_of (changed number x survey) heights
