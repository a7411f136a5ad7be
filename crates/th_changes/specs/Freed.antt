-- What is left if one number may have any value.
use Rattle.std.specs.Prelude.{◌≡◌, ℕ, ◌≤◌, ℤ, List}
use Rattle.th_network.specs.Heights.{IsHeights, cost}
use Rattle.th_network.specs.Networks.{Survey}
use Rattle.th_changes.specs.declared.numbers.Number.{Number}
use Rattle.th_changes.specs.Numbers.{changed}

-- the heights keep each benchmark of the survey
abbrev pub Keeps : Survey → (List ℕ → ℤ) → Type 0
Keeps survey heights = IsHeights survey.benchmarks heights

-- what the survey costs at these heights
abbrev pub cost_of : Survey → (List ℕ → ℤ) → ℕ
cost_of survey heights = cost survey.observations survey.weights heights

-- if the number grows by x, some heights that then keep the benchmarks cost so much
abbrev pub Costs : Survey → Number → ℤ → ℕ → Type 0
Costs survey number x total = (heights : List ℕ → ℤ) × Keeps (changed number x survey) heights × (cost_of (changed number x survey) heights ≡ total)

-- the least cost over all changes of the number and all heights that then keep the benchmarks
pub record IsFreed (survey : Survey) (number : Number) (freed : ℕ) : Type 0 where
  pub reached : (x : ℤ) × Costs survey number x freed
  pub least : (x : ℤ) (heights : List ℕ → ℤ) → Keeps (changed number x survey) heights → freed ≤ cost_of (changed number x survey) heights

-- the change is proposed: with it, some heights cost no more than any heights with any change
pub record IsProposed (survey : Survey) (number : Number) (x : ℤ) : Type 0 where
  pub freed : ℕ
  pub is_freed : IsFreed survey number freed
  pub reached : Costs survey number x freed
