-- Heights that are raised where a number that grows is the height of a benchmark.
use Rattle.std.specs.Prelude.{◌≡◌, ℕ, ◌*◌, ◌<◌, ℤ, ◌+ℤ◌, ◌*ℤ◌, List, All, map, unsigned_abs}
use Rattle.th_changes.specs.Numbers.{lift}
use Rattle.th_changes.specs.declared.numbers.Number.{Number}
use Rattle.th_network.specs.Limits.{height_limit}

-- the height of each point, higher where it grows with the number
pub record AreRaised (number : Number) (growth : ℤ) (names : List (List ℕ)) (heights : List ℕ → ℤ) (own : List ℤ) : Type 0 where
  pub raised : own ≡ map (λ name. heights name +ℤ growth *ℤ lift number name) names
  pub in_range : All (λ height. unsigned_abs height < 2 * height_limit) own
