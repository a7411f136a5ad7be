use Rattle.std.specs.Prelude.{◌≡◌, ℕ, ◌≤◌, Bool, true, List}
use Rattle.th_cuts.specs.declared.edges.Edge.{Edge}
use Rattle.th_cuts.specs.CutWeights.{cut_weight, separates}
use Rattle.th_cuts.specs.Drains.{on_side}

-- some cut that separates two vertices has this weight, and no such cut weighs less
pub record IsLeastCut (edges : List Edge) (u v value : ℕ) : Type 0 where
  pub reached : (inside : ℕ → Bool) × (separates inside u v ≡ true) × (cut_weight inside edges ≡ value)
  pub least : (inside : ℕ → Bool) → separates inside u v ≡ true → value ≤ cut_weight inside edges

-- the side separates two vertices, and no cut that separates them weighs less than that of the side
pub record IsLeastSide (edges : List Edge) (u v : ℕ) (side : List Bool) : Type 0 where
  pub apart : separates (on_side side) u v ≡ true
  pub least : (inside : ℕ → Bool) → separates inside u v ≡ true → cut_weight (on_side side) edges ≤ cut_weight inside edges

-- a graph with weighted edges
pub record Weighted : Type 0 where
  pub vertices : ℕ
  pub edges : List Edge
