use Rattle.std.specs.Prelude.{◌≡◌, ◌≢◌, ℕ, ◌+◌, ◌-◌, ◌<◌, ◌≤◌, ◌==◌, Bool, true, List, if◌then◌else◌, length, min, slice_index_or, slice_set}
use Rattle.th_cuts.specs.declared.branches.Branch.{Branch}
use Rattle.th_cuts.specs.declared.cuts.Cut.{Cut}
use Rattle.th_cuts.specs.declared.edges.Edge.{Edge}
use Rattle.th_cuts.specs.CutWeights.{cut_weight, separates}
use Rattle.th_cuts.specs.Drains.{on_side, room_at}

-- a least cut between two vertices
pub record IsCut (vertices : ℕ) (edges : List Edge) (u v : ℕ) (cut : Cut) : Type 0 where
  pub each : length cut.side.items ≡ vertices
  pub apart : separates (on_side cut.side.items) u v ≡ true
  pub weighs : cut_weight (on_side cut.side.items) edges ≡ cut.value
  pub least : (inside : ℕ → Bool) → separates inside u v ≡ true → cut.value ≤ cut_weight inside edges

-- a least cut between a vertex and an earlier one, its parent
pub record IsBranch (vertices : ℕ) (edges : List Edge) (vertex : ℕ) (branch : Branch) : Type 0 where
  pub before : branch.parent < vertex
  pub cut : IsCut vertices edges vertex branch.parent branch.cut

-- branch `k`, counted from 0, is that of vertex `k + 1`
abbrev pub AreBranches : ℕ → List Edge → List Branch → Type 0
AreBranches vertices edges branches = (k : ℕ) (d : Branch) → k < length branches → IsBranch vertices edges (k + 1) (slice_index_or branches k d)

-- for each vertex the weight of the cut that separates it from all others
pub record AreLone (vertices : ℕ) (edges : List Edge) (lone : List ℕ) : Type 0 where
  pub each : length lone ≡ vertices
  pub weigh : (vertex : ℕ) → vertex < vertices → room_at lone vertex ≡ cut_weight (λ other. other == vertex) edges

-- two different vertices of so many
pub record IsPair (vertices u v : ℕ) : Type 0 where
  pub first : u < vertices
  pub second : v < vertices
  pub apart : u ≢ v

-- two vertices, and what the edges at the lighter one weigh
pub record AreWeighed (vertices : ℕ) (edges : List Edge) (lone : List ℕ) (u v most : ℕ) : Type 0 where
  pub weights : AreLone vertices edges lone
  pub pair : IsPair vertices u v
  pub lesser : most ≡ min (room_at lone u) (room_at lone v)

-- this much more at a vertex
abbrev pub raised : List ℕ → ℕ → ℕ → List ℕ
raised lone vertex weight = slice_set lone vertex (room_at lone vertex + weight)

-- the weight of an edge more at both of its ends, unless it is a loop
abbrev pub with_edge : List ℕ → Edge → List ℕ
with_edge lone edge = if edge.tail == edge.head then lone else raised (raised lone edge.tail edge.weight) edge.head edge.weight

-- no cut that separates two vertices weighs less than this
abbrev pub IsSame : List Edge → ℕ → ℕ → ℕ → Type 0
IsSame edges weight u v = (inside : ℕ → Bool) → separates inside u v ≡ true → weight ≤ cut_weight inside edges

-- there is this much room at a vertex, and none at those that a lighter cut separates from it
pub record AreNear (vertices : ℕ) (edges : List Edge) (most vertex : ℕ) (rooms : List ℕ) : Type 0 where
  pub each : length rooms ≡ vertices
  pub here : room_at rooms vertex ≡ most
  pub near : (other : ℕ) → 1 ≤ room_at rooms other → IsSame edges most other vertex

-- for each vertex one from which no lighter cut separates it
abbrev pub AreTops : List Edge → ℕ → List ℕ → Type 0
AreTops edges weight tops = (k : ℕ) → k < length tops → IsSame edges weight k (room_at tops k)

-- the weight of each vertex alone, and a branch for each vertex of a graph but vertex 0
pub record IsGrown (vertices : ℕ) (edges : List Edge) (lone : List ℕ) (list : List Branch) : Type 0 where
  pub weigh : AreLone vertices edges lone
  pub each : length list ≡ vertices - 1
  pub branches : AreBranches vertices edges list
