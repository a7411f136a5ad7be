-- The vertices of names, place by place.
use Rattle.std.specs.Prelude.{◌≡◌, ℕ, ◌+◌, List, Some, count_by, length, slice_get}
use Rattle.th_tables.specs.Rows.{BenchmarkRows}
use Rattle.th_network.specs.Vertices.{is_free, vertex_at}

-- the vertex of each name, place by place, and the number of vertices
pub record AreVertices (benchmarks : BenchmarkRows) (names : List (List ℕ)) (vertices : List ℕ) (count : ℕ) : Type 0 where
  pub size : length vertices ≡ length names
  pub each : (place : ℕ) (name : List ℕ) → slice_get names place ≡ Some name → slice_get vertices place ≡ Some (vertex_at benchmarks names place name)
  pub all : count ≡ count_by (is_free benchmarks) names + 1
