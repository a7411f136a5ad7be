-- Changes of a number between which the least cost is.
use Rattle.std.specs.Prelude.{◌≡◌, ℕ, ◌<◌, ◌≤◌, ℤ, pos, ◌≤ℤ◌, ◌<ℤ◌, Bool, ◌&&◌, Option, None, Some, nat_lt, unsigned_abs}
use Rattle.th_network.specs.Networks.{Survey}
use Rattle.th_explain.specs.declared.freed.Freed.{Freed}
use Rattle.th_changes.specs.declared.numbers.Number.{Number}
use Rattle.th_changes.specs.declared.slopes.Sloped.{Sloped}
use Rattle.th_explain.specs.Explained.{IsNone, mildest}
use Rattle.th_changes.specs.Freed.{IsFreed, IsProposed}
use Rattle.th_changes.specs.Reach.{reach_of}
use Rattle.th_changes.specs.Slopes.{IsSloped}

-- a change within reach, with its cost and slope
pub record IsInReach (survey : Survey) (number : Number) (own : Sloped) : Type 0 where
  pub sloped : IsSloped survey number own
  pub near : unsigned_abs own.change ≤ reach_of number survey.observations

-- the cost falls at the left change and rises at the right one
pub record AreRound (survey : Survey) (number : Number) (left right : Sloped) : Type 0 where
  pub at_left : IsInReach survey number left
  pub at_right : IsInReach survey number right
  pub falls : left.slope <ℤ pos 0
  pub rises : pos 0 <ℤ right.slope
  pub order : left.change <ℤ right.change

-- the cost falls at the left change and is least at the flat one
pub record IsBelow (survey : Survey) (number : Number) (left flat : Sloped) : Type 0 where
  pub at_left : IsInReach survey number left
  pub at_flat : IsInReach survey number flat
  pub falls : left.slope <ℤ pos 0
  pub least : flat.slope ≡ pos 0
  pub order : left.change <ℤ flat.change

-- the cost is least at the flat change and rises at the right one
pub record IsAbove (survey : Survey) (number : Number) (flat right : Sloped) : Type 0 where
  pub at_flat : IsInReach survey number flat
  pub at_right : IsInReach survey number right
  pub least : flat.slope ≡ pos 0
  pub rises : pos 0 <ℤ right.slope
  pub order : flat.change <ℤ right.change

-- the cost falls at the left change, and the low one costs so little
pub record IsStepDown (survey : Survey) (number : Number) (total : ℕ) (left low : Sloped) : Type 0 where
  pub at_left : IsInReach survey number left
  pub at_low : IsInReach survey number low
  pub falls : left.slope <ℤ pos 0
  pub level : low.cost ≡ total
  pub order : left.change <ℤ low.change

-- the high change costs so little, and the cost rises at the right one
pub record IsStepUp (survey : Survey) (number : Number) (total : ℕ) (high right : Sloped) : Type 0 where
  pub at_high : IsInReach survey number high
  pub at_right : IsInReach survey number right
  pub rises : pos 0 <ℤ right.slope
  pub level : high.cost ≡ total
  pub order : high.change <ℤ right.change

-- the least change that is proposed, with what is left
pub record IsLowest (survey : Survey) (number : Number) (own : Sloped) : Type 0 where
  pub freed : IsFreed survey number own.cost
  pub proposed : IsProposed survey number own.change
  pub least : (x : ℤ) → IsProposed survey number x → own.change ≤ℤ x

-- the greatest change that is proposed
pub record IsHighest (survey : Survey) (number : Number) (own : Sloped) : Type 0 where
  pub proposed : IsProposed survey number own.change
  pub greatest : (x : ℤ) → IsProposed survey number x → x ≤ℤ own.change

-- what is left between neighbours: the lesser cost, and the changes that have it
pub record IsNearest (left right : Sloped) (freed : Freed) : Type 0 where
  pub left_less : left.cost < right.cost → freed ≡ record { left = left.cost; low = left.change; high = left.change }
  pub right_less : right.cost < left.cost → freed ≡ record { left = right.cost; low = right.change; high = right.change }
  pub same : left.cost ≡ right.cost → freed ≡ record { left = left.cost; low = left.change; high = right.change }

-- whether all changes from the least to the greatest are above the limit, and within reach
abbrev pub is_explanation : ℕ → ℕ → Freed → Bool
is_explanation limit reach freed = nat_lt limit (mildest freed.low freed.high) && (nat_lt (unsigned_abs freed.low) reach && nat_lt (unsigned_abs freed.high) reach)

-- two changes between which the least cost is; or the number does not explain what does not fit
abbrev pub IsRoundOrNone : Survey → ℕ → Number → Option (Sloped × Sloped) → Type 0
IsRoundOrNone survey limit number None = IsNone survey limit number
IsRoundOrNone survey limit number (Some round) = AreRound survey number round.0 round.1
