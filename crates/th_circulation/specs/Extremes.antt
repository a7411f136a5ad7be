use Rattle.std.specs.Prelude.{ℕ, ℤ, ◌≤ℤ◌, List, All}
use Rattle.th_observations.specs.Observed.{Observed}
use Rattle.th_tables.specs.Rows.{BenchmarkRows, WeightRows}
use Rattle.th_points.specs.Points.{points}
use Rattle.th_network.specs.Heights.{Least}
use Rattle.th_network.specs.Networks.{Survey}

-- the lowest best heights: they cost least, and no heights that cost least are lower at any point
pub record Low (observations : List Observed) (benchmarks : BenchmarkRows) (weights : WeightRows) (heights : List ℕ → ℤ) : Type 0 where
  pub best : Least observations benchmarks weights heights
  pub lowest : (others : List ℕ → ℤ) → Least observations benchmarks weights others → All (λ point. heights point ≤ℤ others point) (points observations benchmarks)

-- the highest best heights: they cost least, and no heights that cost least are higher at any point
pub record High (observations : List Observed) (benchmarks : BenchmarkRows) (weights : WeightRows) (heights : List ℕ → ℤ) : Type 0 where
  pub best : Least observations benchmarks weights heights
  pub highest : (others : List ℕ → ℤ) → Least observations benchmarks weights others → All (λ point. others point ≤ℤ heights point) (points observations benchmarks)

-- the heights are the lowest best ones of the survey
abbrev pub AreLowest : Survey → (List ℕ → ℤ) → Type 0
AreLowest survey heights = Low survey.observations survey.benchmarks survey.weights heights
