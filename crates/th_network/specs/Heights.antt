use Rattle.std.specs.Prelude.{◌≡◌, ℕ, ◌*◌, ◌<◌, ◌≤◌, ℤ, pos, ◌-ℤ◌, ◌*ℤ◌, List, Some, slice_index_or, sum_by, unsigned_abs}
use Rattle.th_observations.specs.Observed.{Observed}
use Rattle.th_points.specs.Places.{place_of}
use Rattle.th_tables.specs.Rows.{BenchmarkRows, WeightRows, height_of, weight_of}

-- the map of heights that are listed in the order of these names; zero at any other name
abbrev pub heights_at : List (List ℕ) → List ℤ → List ℕ → ℤ
heights_at names heights name = slice_index_or heights (place_of names name) (pos 0)

-- the heights keep each benchmark
abbrev pub IsHeights : BenchmarkRows → (List ℕ → ℤ) → Type 0
IsHeights benchmarks heights = (name : List ℕ) (height : ℤ) → height_of benchmarks name ≡ Some height → heights name ≡ height

-- the observed difference, less the height of the target above the station
abbrev pub residual : Observed → (List ℕ → ℤ) → ℤ
residual o heights = o.difference -ℤ (heights o.target -ℤ heights o.station)

-- the sum over the observations of weight times size of the residual
abbrev pub cost : List Observed → WeightRows → (List ℕ → ℤ) → ℕ
cost observations weights heights = sum_by (λ o. weight_of weights o.station o.target * unsigned_abs (residual o heights)) observations

-- the heights keep each benchmark, and no heights that keep each benchmark cost less
pub record Least (observations : List Observed) (benchmarks : BenchmarkRows) (weights : WeightRows) (heights : List ℕ → ℤ) : Type 0 where
  pub kept : IsHeights benchmarks heights
  pub least : (others : List ℕ → ℤ) → IsHeights benchmarks others → cost observations weights heights ≤ cost observations weights others

-- heights in a unit k times finer that keep each benchmark
abbrev pub IsFineHeights : ℕ → BenchmarkRows → (List ℕ → ℤ) → Type 0
IsFineHeights k benchmarks fine = (name : List ℕ) (height : ℤ) → height_of benchmarks name ≡ Some height → fine name ≡ pos k *ℤ height

-- the cost of such heights, in the finer unit
abbrev pub fine_cost : ℕ → List Observed → WeightRows → (List ℕ → ℤ) → ℕ
fine_cost k observations weights fine = sum_by (λ o. weight_of weights o.station o.target * unsigned_abs (pos k *ℤ o.difference -ℤ (fine o.target -ℤ fine o.station))) observations

-- the heights keep each benchmark, and no heights that keep each benchmark cost less, in whole units or in any finer unit
pub record LeastFine (observations : List Observed) (benchmarks : BenchmarkRows) (weights : WeightRows) (heights : List ℕ → ℤ) : Type 0 where
  pub kept : IsHeights benchmarks heights
  pub least : (k : ℕ) (fine : List ℕ → ℤ) → 0 < k → IsFineHeights k benchmarks fine → k * cost observations weights heights ≤ fine_cost k observations weights fine
