-- What a survey costs as one number grows, and how steeply.
use Rattle.std.specs.Prelude.{ℕ, ℤ, pos, ◌+ℤ◌, ◌-ℤ◌, ◌*ℤ◌, ◌≤ℤ◌, List}
use Rattle.th_network.specs.Networks.{Survey}
use Rattle.th_changes.specs.declared.numbers.Number.{Number}
use Rattle.th_changes.specs.declared.slopes.Sloped.{Sloped}
use Rattle.th_changes.specs.Numbers.{changed}
use Rattle.th_changes.specs.Freed.{Costs, Keeps, cost_of}

-- if the number grows by x, some heights cost so much; and for each unit that it grows further, all heights cost at least the slope more
pub record IsSlopedAt (survey : Survey) (number : Number) (x : ℤ) (total : ℕ) (slope : ℤ) : Type 0 where
  pub reached : Costs survey number x total
  pub bounds : (y : ℤ) (heights : List ℕ → ℤ) → Keeps (changed number y survey) heights → (pos total +ℤ (y -ℤ x) *ℤ slope) ≤ℤ pos (cost_of (changed number y survey) heights)

abbrev pub IsSloped : Survey → Number → Sloped → Type 0
IsSloped survey number own = IsSlopedAt survey number own.change own.cost own.slope
