use Rattle.std.specs.Prelude.{◌≡◌, ℕ, ℤ, Some, ◌-ℤ◌, List, slice_get, slice_index_or, pos, unwrap_or}
use Rattle.th_observations.specs.Observed.{Observed}
use Rattle.th_tables.specs.Rows.{BenchmarkRows, height_of}
use Rattle.th_points.specs.Points.{points}
use Rattle.th_network.specs.Vertices.{vertex_of}

-- the height of a name, given heights of vertices: a benchmark's own, else how far the vertex of the name is above vertex 0
abbrev pub point_height : List Observed → BenchmarkRows → (ℕ → ℤ) → List ℕ → ℤ
point_height observations benchmarks heights name = unwrap_or (height_of benchmarks name) (heights (vertex_of observations benchmarks name) -ℤ heights 0)

-- the heights that the heights of vertices give to the points, in point order
abbrev pub ArePointHeights : List Observed → BenchmarkRows → (ℕ → ℤ) → List ℤ → Type 0
ArePointHeights observations benchmarks heights listed = (k : ℕ) (name : List ℕ) → slice_get (points observations benchmarks) k ≡ Some name → slice_index_or listed k (pos 0) ≡ point_height observations benchmarks heights name
