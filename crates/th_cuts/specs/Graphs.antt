use Rattle.std.specs.Prelude.{ℕ, ◌<◌, ◌≤◌, List, All, sum_by, slice_index_or, if◌then◌else◌}
use Rattle.th_limits.specs.Limits.{max_total_weight}
use Rattle.th_cuts.specs.declared.edges.Edge.{Edge}
use Rattle.th_cuts.specs.declared.edges.Way.{Way}

-- both ends of each edge are among the vertices
abbrev pub AreAmong : ℕ → List Edge → Type 0
AreAmong vertices edges = All (λ edge. (edge.tail < vertices) × (edge.head < vertices)) edges

-- the edges are between the vertices, and their weights sum to at most `max_total_weight`
pub record IsGraph (vertices : ℕ) (edges : List Edge) : Type 0 where
  pub ends : AreAmong vertices edges
  pub light : sum_by (λ edge. edge.weight) edges ≤ max_total_weight

-- the edge of a number
abbrev pub edge_at : List Edge → ℕ → Edge
edge_at edges number = slice_index_or edges number (record { tail = 0; head = 0; weight = 0 })

-- the vertices where a way along an edge begins and to which it leads
abbrev pub start_of : Way → Edge → ℕ
start_of way edge = if way.is_forward then edge.tail else edge.head

abbrev pub finish_of : Way → Edge → ℕ
finish_of way edge = if way.is_forward then edge.head else edge.tail
