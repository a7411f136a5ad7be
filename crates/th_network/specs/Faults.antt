use Rattle.std.specs.Prelude.{◌≡◌, ℕ, ◌<◌, ◌≤◌, List, Some, All, length, take, slice_get}
use Rattle.th_observations.specs.Observed.{Observed}
use Rattle.th_tables.specs.Rows.{BenchmarkRows}
use Rattle.th_points.specs.Points.{points}
use Rattle.th_network.specs.Walks.{IsTied, Anchored}
use Rattle.th_network.specs.declared.faults.NetFault.{NetFault}
use Rattle.th_network.specs.declared.faults.NetFault.TheVariants.{TooManyObservations, TooManyPoints, NoBenchmark, NoMemory}
use Rattle.th_network.specs.Limits.{max_observations, max_points}

-- the name is the first point from which no walk leads to a benchmark
abbrev pub IsFirstUntied : List Observed → BenchmarkRows → List ℕ → Type 0
IsFirstUntied observations benchmarks name =
    (k : ℕ) × (slice_get (points observations benchmarks) k ≡ Some name) × All (IsTied observations benchmarks) (take k (points observations benchmarks)) × (¬ IsTied observations benchmarks name)

-- the fault of a network: the first one that applies, in this order; running out of memory is no fault of a network
abbrev pub HasFault : List Observed → BenchmarkRows → NetFault → Type 0
HasFault observations benchmarks TooManyObservations = max_observations < length observations
HasFault observations benchmarks TooManyPoints = (length observations ≤ max_observations) × (max_points < length (points observations benchmarks))
HasFault observations benchmarks (NoBenchmark name) =
    (length observations ≤ max_observations) × (length (points observations benchmarks) ≤ max_points) × IsFirstUntied observations benchmarks name
HasFault observations benchmarks NoMemory = ⊥

-- a network without a fault
pub record IsNetwork (observations : List Observed) (benchmarks : BenchmarkRows) : Type 0 where
  pub few_observations : length observations ≤ max_observations
  pub few_points : length (points observations benchmarks) ≤ max_points
  pub anchored : Anchored observations benchmarks
