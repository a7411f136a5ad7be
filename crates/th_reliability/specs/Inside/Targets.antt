use Rattle.std.specs.Prelude.{◌≡◌, ℕ, ◌+◌, ◌<◌, ◌≤◌, ◌⊎◌, ◌==◌, Bool, false, true, List, All, Contains, get_or, if◌then◌else◌, length, map, sum_by}
use Rattle.th_limits.specs.Limits.{max_total_weight}
use Rattle.th_observations.specs.Observed.{Observed}
use Rattle.th_tables.specs.Rows.{weight_of}
use Rattle.th_network.specs.Networks.{Survey, vertices_of}
use Rattle.th_network.specs.Vertices.{vertex_of}
use Rattle.th_network.specs.Walks.{Anchored}
use Rattle.th_cuts.specs.Drains.{room_in}
use Rattle.th_cuts.specs.declared.edges.Edge.{Edge}
use Rattle.th_reliability.specs.Blunders.{weight_in}
use Rattle.th_reliability.specs.Edges.{edge_of, edges_of}
use Rattle.th_reliability.specs.declared.targets.Targets.{Targets}

-- the vertex of a name
abbrev pub vertex : Survey → List ℕ → ℕ
vertex survey name = vertex_of survey.observations survey.benchmarks name

-- the edge of each observation, between vertices of the survey; the weights sum to at most `max_total_weight`, so that the edges can be cut
pub record AreEdges (survey : Survey) (edges : List Edge) : Type 0 where
  pub all : edges ≡ edges_of survey.observations survey.benchmarks survey.weights
  pub ends : All (λ edge. (edge.tail < vertices_of survey) × (edge.head < vertices_of survey)) edges
  pub light : sum_by (λ edge. edge.weight) edges ≤ max_total_weight

-- an end of the observation has the vertex
abbrev pub IsAtVertex : Survey → ℕ → Observed → Type 0
IsAtVertex survey start o = (vertex survey o.station ≡ start) ⊎ (vertex survey o.target ≡ start)

-- all of a group have an end with the vertex
abbrev pub AreAtVertex : Survey → (Observed → Bool) → ℕ → Type 0
AreAtVertex survey group start = All (λ o. group o ≡ true → IsAtVertex survey start o) survey.observations

-- the other end of an edge from a vertex, or to it
abbrev pub far_end : ℕ → Edge → ℕ
far_end start edge = if edge.tail == start then edge.head else edge.tail

-- the vertex of the other end of an observation
abbrev pub far_vertex : Survey → ℕ → Observed → ℕ
far_vertex survey start o = far_end start (edge_of survey.observations survey.benchmarks survey.weights o)

-- twice the weight of an observation whose other end's vertex is inside
abbrev pub room_of : Survey → ℕ → (ℕ → Bool) → Observed → ℕ
room_of survey start inside o = if inside (far_vertex survey start o) then weight_of survey.weights o.station o.target + weight_of survey.weights o.station o.target else 0

-- the sum of that over the observations of a group
abbrev pub group_room : Survey → (Observed → Bool) → ℕ → (ℕ → Bool) → List Observed → ℕ
group_room survey group start inside observations = sum_by (λ o. if group o then room_of survey start inside o else 0) observations

-- room for twice the weight of each observation of a group at the vertices of their other ends
pub record AreTargets (survey : Survey) (group : Observed → Bool) (start : ℕ) (rooms targets : List ℕ) : Type 0 where
  pub room : (inside : ℕ → Bool) → room_in rooms inside ≡ group_room survey group start inside survey.observations
  pub all : All (λ o. group o ≡ true → Contains targets (far_vertex survey start o)) survey.observations
  pub only : (target : ℕ) → Contains targets target → (o : Observed) × Contains survey.observations o × (group o ≡ true) × (far_vertex survey start o ≡ target)

-- a run of places, up to the second without it, holds all that are marked
pub record HoldsMarks (marks : List Bool) (run : ℕ × ℕ) : Type 0 where
  pub ordered : run.0 ≤ run.1
  pub within : run.1 ≤ length marks
  pub below : (k : ℕ) → k < run.0 → get_or marks k false ≡ false
  pub above : (k : ℕ) → run.1 ≤ k → get_or marks k false ≡ false

-- the targets of the observations that a list marks, and what those weigh, in a network whose weights are 1 or more
pub record AreTargetsOf (survey : Survey) (mistaken : List Bool) (start : ℕ) (found : Targets) : Type 0 where
  pub each : length found.rooms.items ≡ vertices_of survey
  pub light : found.weight ≤ max_total_weight
  pub weigh : All (λ o. 1 ≤ weight_of survey.weights o.station o.target) survey.observations
  pub anchored : Anchored survey.observations survey.benchmarks
  pub weight : (group : Observed → Bool) → mistaken ≡ map group survey.observations → found.weight ≡ weight_in survey.observations survey.weights group
  pub targets : (group : Observed → Bool) → mistaken ≡ map group survey.observations → AreTargets survey group start found.rooms.items found.targets.items
