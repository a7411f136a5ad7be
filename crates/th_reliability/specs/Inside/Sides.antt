use Rattle.std.specs.Prelude.{ℕ, Bool, List, if◌then◌else◌}
use Rattle.th_network.specs.Networks.{Survey}
use Rattle.th_cuts.specs.CutWeights.{crosses, separates}
use Rattle.th_cuts.specs.declared.edges.Edge.{Edge}
use Rattle.th_reliability.specs.Edges.{names_in}

-- the names whose vertices a side separates from vertex 0
abbrev pub names_beyond : Survey → (ℕ → Bool) → List ℕ → Bool
names_beyond survey side = names_in survey.observations survey.benchmarks (λ vertex. separates side vertex 0)

-- the weight with which the observation of an edge is blamed if a side moves
abbrev pub blamed_edge : Bool → (ℕ → Bool) → Edge → ℕ
blamed_edge mistaken side edge = if mistaken then 0 else (if crosses side edge then edge.weight else 0)
