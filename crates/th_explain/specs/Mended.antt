-- Heights after a number was changed, and the blunders that are left then.
use Rattle.std.specs.Prelude.{◌≡◌, ℕ, ℤ, List}
use Rattle.th_blunders.specs.Blunders.{blunders_at}
use Rattle.th_circulation.specs.Extremes.{AreLowest}
use Rattle.th_network.specs.Networks.{AreAtPoints, Survey, at_points_of}
use Rattle.th_changes.specs.declared.numbers.Number.{Number}
use Rattle.th_changes.specs.Numbers.{changed}
use Rattle.th_changes.specs.Tilted.{tilted}

-- the heights are listed in point order: the lowest best ones after the number grew by x, where its growth was moved to the differences
pub record AreLowestWith (survey : Survey) (number : Number) (x : ℤ) (heights : List ℤ) : Type 0 where
  pub at_points : AreAtPoints (tilted number x survey) heights
  pub lowest : AreLowest (tilted number x survey) (at_points_of (tilted number x survey) heights)

-- so many observations are blunders at the lowest best heights of the survey
abbrev pub HasBlunders : Survey → ℤ → ℕ → Type 0
HasBlunders survey limit count = (heights : List ℕ → ℤ) × AreLowest survey heights × (count ≡ blunders_at limit survey heights)

-- if the number grows by x, so many observations are blunders at the lowest best heights that the survey then has
abbrev pub LeavesBlunders : Survey → Number → ℤ → ℤ → ℕ → Type 0
LeavesBlunders survey number x limit count = HasBlunders (changed number x survey) limit count
