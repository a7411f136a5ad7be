use Rattle.std.specs.Prelude.{◌≡◌, ℕ, ◌<◌, ◌≤◌, ℤ, pos, ◌+ℤ◌, ◌<ℤ◌, List, [], ◌∷◌, length, map, nat_eq, slice_index_or, unsigned_abs}
use Rattle.std.specs.List.{IsDistinct}
use Rattle.th_search.specs.Limits.{max_cost}
use Rattle.th_search.specs.declared.arcs.Arc.{Arc}

-- the arc has both ends among n vertices, and a cost of at most `max_cost` in size
pub record IsArc (n : ℕ) (arc : Arc) : Type 0 where
  pub tail : arc.tail < n
  pub head : arc.head < n
  pub cost : unsigned_abs arc.cost ≤ max_cost

-- the arc with this number, counted from 0; a loop without cost if there is none
abbrev pub arc_at : List Arc → ℕ → Arc
arc_at arcs number = slice_index_or arcs number (record { tail = 0; head = 0; cost = pos 0 })

-- the numbers are those of arcs that lead from one vertex to another, each beginning where the one before it ended
abbrev pub IsWalk : List Arc → ℕ → List ℕ → ℕ → Type 0
IsWalk arcs from [] to = from ≡ to
IsWalk arcs from (number ∷ walk) to = (number < length arcs) × (from ≡ (arc_at arcs number).tail) × IsWalk arcs (arc_at arcs number).head walk to

-- the sum of the costs of a walk
abbrev pub cost_of : List Arc → List ℕ → ℤ
cost_of arcs [] = pos 0
cost_of arcs (number ∷ walk) = (arc_at arcs number).cost +ℤ cost_of arcs walk

-- the vertices that a walk enters
abbrev pub entered_by : List Arc → List ℕ → List ℕ
entered_by arcs walk = map (λ number. (arc_at arcs number).head) walk

-- a walk of one or more arcs that ends where it begins, enters each vertex at most once, and costs less than zero
pub record IsNegativeCycle (arcs : List Arc) (walk : List ℕ) : Type 0 where
  pub some : 0 < length walk
  pub closed : (vertex : ℕ) × IsWalk arcs vertex walk vertex
  pub once : IsDistinct nat_eq (entered_by arcs walk)
  pub negative : cost_of arcs walk <ℤ pos 0
