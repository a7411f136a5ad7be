-- Where the ends of the observations are among the points.
use Rattle.std.specs.Prelude.{◌≡◌, ◌<◌, ℕ, List, map}
use Rattle.th_observations.specs.Observed.{Observed}
use Rattle.th_tables.specs.Rows.{BenchmarkRows}
use Rattle.th_points.specs.Points.{points}
use Rattle.th_points.specs.Places.{place_of}

-- the places of an observation's station and of its target
abbrev pub ends_in : List (List ℕ) → Observed → ℕ × ℕ
ends_in names o = (place_of names o.station, place_of names o.target)

-- the places of an observation's station and of its target are below the number of points, so that both are places of points
abbrev pub AreBelow : ℕ → ℕ × ℕ → Type 0
AreBelow count ends = (ends.0 < count) × (ends.1 < count)

-- for each observation, the places of its ends among the points
abbrev pub ends_of : List Observed → BenchmarkRows → List (ℕ × ℕ)
ends_of observations benchmarks = map (ends_in (points observations benchmarks)) observations

-- the points of a network, and for each observation the places of its ends among them
pub record ArePoints (observations : List Observed) (benchmarks : BenchmarkRows) (names : List (List ℕ)) (ends : List (ℕ × ℕ)) : Type 0 where
  pub all : names ≡ points observations benchmarks
  pub placed : ends ≡ ends_of observations benchmarks
