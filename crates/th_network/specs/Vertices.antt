use Rattle.std.specs.Prelude.{ℕ, ◌+◌, Bool, List, is_none, if◌then◌else◌, count_by, take}
use Rattle.th_observations.specs.Observed.{Observed}
use Rattle.th_tables.specs.Rows.{BenchmarkRows, height_of}
use Rattle.th_points.specs.Points.{points}
use Rattle.th_points.specs.Places.{place_of}

-- whether a name is no benchmark
abbrev pub is_free : BenchmarkRows → List ℕ → Bool
is_free benchmarks name = is_none (height_of benchmarks name)

-- how many of the names before a place are no benchmark
abbrev pub free_before : BenchmarkRows → List (List ℕ) → ℕ → ℕ
free_before benchmarks names place = count_by (is_free benchmarks) (take place names)

-- the vertex of the name at a place: 0 for a benchmark, else one more than the number of earlier names that are no benchmark
abbrev pub vertex_at : BenchmarkRows → List (List ℕ) → ℕ → List ℕ → ℕ
vertex_at benchmarks names place name = if is_free benchmarks name then free_before benchmarks names place + 1 else 0

-- the vertex of a point
abbrev pub vertex_of : List Observed → BenchmarkRows → List ℕ → ℕ
vertex_of observations benchmarks name =
    let names = points observations benchmarks in
    vertex_at benchmarks names (place_of names name) name

-- how many vertices a network has: one more than the number of its points that are no benchmark
abbrev pub vertex_count : List Observed → BenchmarkRows → ℕ
vertex_count observations benchmarks = count_by (is_free benchmarks) (points observations benchmarks) + 1
