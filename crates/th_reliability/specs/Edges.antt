use Rattle.std.specs.Prelude.{ℕ, Bool, ◌&&◌, ◌==◌, List, map}
use Rattle.std.specs.List.{list_any}
use Rattle.th_observations.specs.Observed.{Observed}
use Rattle.th_tables.specs.Rows.{BenchmarkRows, WeightRows, weight_of}
use Rattle.th_points.specs.Points.{points}
use Rattle.th_network.specs.Vertices.{vertex_of}
use Rattle.th_cuts.specs.declared.edges.Edge.{Edge}

-- the edge of an observation in the graph over a network's vertices: it joins the vertices of the ends, and has the observation's weight
abbrev pub edge_of : List Observed → BenchmarkRows → WeightRows → Observed → Edge
edge_of observations benchmarks weights o =
    record { tail = vertex_of observations benchmarks o.station; head = vertex_of observations benchmarks o.target; weight = weight_of weights o.station o.target }

-- the edge of each observation, in order
abbrev pub edges_of : List Observed → BenchmarkRows → WeightRows → List Edge
edges_of observations benchmarks weights = map (edge_of observations benchmarks weights) observations

-- the names whose vertices are inside
abbrev pub names_in : List Observed → BenchmarkRows → (ℕ → Bool) → List ℕ → Bool
names_in observations benchmarks inside name = inside (vertex_of observations benchmarks name)

-- the vertices of the points that are inside
abbrev pub vertices_in : List Observed → BenchmarkRows → (List ℕ → Bool) → ℕ → Bool
vertices_in observations benchmarks inside vertex = list_any (λ name. vertex_of observations benchmarks name == vertex && inside name) (points observations benchmarks)
