-- The points of a network under construction, and their heights.
use Rattle.std.specs.Prelude.{◌≡◌, ◌≤◌, ℕ, ℤ, pos, List, Option, All, map, unsigned_abs, unwrap_or}
use Rattle.th_observations.specs.Observed.{Observed}
use Rattle.th_tables.specs.Rows.{BenchmarkRows, height_of}
use Rattle.th_points.specs.Ends.{ArePoints}
use Rattle.th_units.specs.Limits.{max_len}

-- the observations and benchmarks for which points and heights are looked up
pub record Looked : Type 0 where
  pub observations : List Observed
  pub benchmarks : BenchmarkRows

-- the points, the places of each observation's ends among them, and for each point its height, at most 10 km in size, if it is a benchmark
pub record AreSites (looked : Looked) (names : List (List ℕ)) (ends : List (ℕ × ℕ)) (heights : List (Option ℤ)) : Type 0 where
  pub are : ArePoints looked.observations looked.benchmarks names ends
  pub fixed : heights ≡ map (height_of looked.benchmarks) names
  pub in_range : All (λ height. unsigned_abs (unwrap_or height (pos 0)) ≤ max_len) heights
