-- What is computed of a number.
use Rattle.std.specs.Prelude.{ℕ, ◌<◌, ◌≤◌, ℤ, pos, ◌≤ℤ◌, List, Option, None, Some, if◌then◌else◌, int_lt, unsigned_abs}
use Rattle.th_network.specs.Networks.{Survey}
use Rattle.th_explain.specs.declared.freed.Freed.{Freed}
use Rattle.th_changes.specs.declared.numbers.Number.{Number}
use Rattle.th_changes.specs.Freed.{Costs, IsFreed, IsProposed, Keeps, cost_of}
use Rattle.th_changes.specs.Numbers.{changed}
use Rattle.th_changes.specs.Reach.{reach_of}

-- what is left if the number is freed, and the least and the greatest change that is proposed
pub record IsExact (survey : Survey) (number : Number) (freed : Freed) : Type 0 where
  pub left : IsFreed survey number freed.left
  pub low : IsProposed survey number freed.low
  pub high : IsProposed survey number freed.high
  pub least : (x : ℤ) → IsProposed survey number x → freed.low ≤ℤ x
  pub greatest : (x : ℤ) → IsProposed survey number x → x ≤ℤ freed.high

-- the size of the mildest of the changes from low to high, the one nearest to none
abbrev pub mildest : ℤ → ℤ → ℕ
mildest low high = if int_lt (pos 0) low then unsigned_abs low else (if int_lt high (pos 0) then unsigned_abs high else 0)

-- The number explains what does not fit: even the mildest change that is proposed is above the limit, and all that are proposed are within reach.
pub record Explains (survey : Survey) (limit : ℕ) (number : Number) (freed : Freed) : Type 0 where
  pub exact : IsExact survey number freed
  pub far : limit < mildest freed.low freed.high
  pub low_in_reach : unsigned_abs freed.low < reach_of number survey.observations
  pub high_in_reach : unsigned_abs freed.high < reach_of number survey.observations

-- the number does not explain what does not fit
abbrev pub IsNone : Survey → ℕ → Number → Type 0
IsNone survey limit number = (freed : Freed) → ¬ Explains survey limit number freed

-- the number explains what does not fit, and how; or it does not
abbrev pub IsExplainedOrNone : Survey → ℕ → Number → Option Freed → Type 0
IsExplainedOrNone survey limit number None = IsNone survey limit number
IsExplainedOrNone survey limit number (Some freed) = Explains survey limit number freed

-- at least this is left, if anything is given
abbrev pub IsAtLeast : Option ℕ → ℕ → Type 0
IsAtLeast None left = ⊥
IsAtLeast (Some least) left = least ≤ left

-- the number explains what does not fit, and how; or it does not, or at least this is then left
abbrev pub IsExplainedOrMore : Survey → ℕ → Option ℕ → Number → Option Freed → Type 0
IsExplainedOrMore survey limit least number None = (freed : Freed) → Explains survey limit number freed → IsAtLeast least freed.left
IsExplainedOrMore survey limit least number (Some freed) = Explains survey limit number freed

-- the least cost over all changes of the number within reach, and all heights that then keep the benchmarks
pub record IsLeastInReach (survey : Survey) (number : Number) (total : ℕ) : Type 0 where
  pub reached : (x : ℤ) × (unsigned_abs x ≤ reach_of number survey.observations) × Costs survey number x total
  pub least : (x : ℤ) (heights : List ℕ → ℤ) → unsigned_abs x ≤ reach_of number survey.observations → Keeps (changed number x survey) heights → total ≤ cost_of (changed number x survey) heights
