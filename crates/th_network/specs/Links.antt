use Rattle.std.specs.Prelude.{◌≡◌, ℕ, ℤ, pos, ◌+ℤ◌, ◌-ℤ◌, List, unwrap_or, MatchOption}
pub use Rattle.th_limits.specs.Limits.{largest_link_difference}
use Rattle.th_observations.specs.Observed.{Observed}
use Rattle.th_tables.specs.Rows.{BenchmarkRows, height_of}
use Rattle.th_network.specs.Vertices.{vertex_of}
use Rattle.th_network.specs.declared.links.Link.{Link}

-- the height of a benchmark; zero for any other name
abbrev pub base : BenchmarkRows → List ℕ → ℤ
base benchmarks name = unwrap_or (height_of benchmarks name) (pos 0)

-- the observed difference without the benchmarks' heights: plus that of the station, less that of the target
abbrev pub link_difference : BenchmarkRows → Observed → ℤ
link_difference benchmarks o = o.difference +ℤ base benchmarks o.station -ℤ base benchmarks o.target

-- relative heights: zero at each benchmark, the height at every other name
abbrev pub IsRelative : BenchmarkRows → (List ℕ → ℤ) → (List ℕ → ℤ) → Type 0
IsRelative benchmarks heights relative = (name : List ℕ) → MatchOption (height_of benchmarks name) (relative name ≡ heights name) (λ _. relative name ≡ pos 0)

-- the link of an observation: from its station's vertex to its target's, with the observed difference without the benchmarks' heights
abbrev pub link_of : List Observed → BenchmarkRows → Observed → Link
link_of observations benchmarks o =
    record { tail = vertex_of observations benchmarks o.station; head = vertex_of observations benchmarks o.target; diff = link_difference benchmarks o }
