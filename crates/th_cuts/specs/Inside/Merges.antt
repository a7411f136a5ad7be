use Rattle.std.specs.Prelude.{◌≡◌, ℕ, ◌+◌, ◌<◌, ◌≤◌, Bool, List, sum_by}
use Rattle.th_cuts.specs.declared.edges.Edge.{Edge}
use Rattle.th_cuts.specs.CutWeights.{cut_weight, weight_in}
use Rattle.th_cuts.specs.Graphs.{AreAmong}

-- `edges` weigh as much in every cut as `others` and one more edge together, and in total no more
pub record IsAdded (edge : Edge) (others edges : List Edge) : Type 0 where
  pub cuts : (inside : ℕ → Bool) → cut_weight inside edges ≡ cut_weight inside others + weight_in inside edge
  pub lighter : sum_by (λ edge. edge.weight) edges ≤ sum_by (λ edge. edge.weight) others + edge.weight
  pub among : (vertices : ℕ) → edge.tail < vertices → edge.head < vertices → AreAmong vertices others → AreAmong vertices edges

-- `edges` weigh as much in every cut as `others`, and in total no more
pub record IsMerged (others edges : List Edge) : Type 0 where
  pub cuts : (inside : ℕ → Bool) → cut_weight inside edges ≡ cut_weight inside others
  pub lighter : sum_by (λ edge. edge.weight) edges ≤ sum_by (λ edge. edge.weight) others
  pub among : (vertices : ℕ) → AreAmong vertices others → AreAmong vertices edges
