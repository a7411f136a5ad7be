use Rattle.std.specs.Prelude.{ℕ, Bool, true, false, List, sum_by, if◌then◌else◌}
use Rattle.th_cuts.specs.declared.edges.Edge.{Edge}

-- exactly one of two vertices is inside
abbrev pub separates : (ℕ → Bool) → ℕ → ℕ → Bool
separates inside u v = if inside u then (if inside v then false else true) else inside v

-- an edge has exactly one end inside
abbrev pub crosses : (ℕ → Bool) → Edge → Bool
crosses inside edge = separates inside edge.tail edge.head

-- the weight of an edge in a cut: 0 if it does not cross
abbrev pub weight_in : (ℕ → Bool) → Edge → ℕ
weight_in inside edge = if crosses inside edge then edge.weight else 0

-- the total weight of the edges that cross
abbrev pub cut_weight : (ℕ → Bool) → List Edge → ℕ
cut_weight inside edges = sum_by (λ edge. if crosses inside edge then edge.weight else 0) edges
