use Rattle.std.specs.Prelude.{◌≡◌, ℕ, ◌<◌, ◌≤◌, ℤ, pos, ◌+ℤ◌, ◌≤ℤ◌, List, All, length, unsigned_abs}
use Rattle.th_search.specs.declared.arcs.Arc.{Arc}
use Rattle.th_search.specs.Potentials.{value_at}
use Rattle.th_search.specs.Walks.{IsArc}
use Rattle.th_search.specs.Limits.{farthest, max_vertices}

-- `count` numbers, none larger in size than `most`
pub record AreWithin (count most : ℕ) (numbers : List ℤ) : Type 0 where
  pub each : length numbers ≡ count
  pub small : All (λ number. unsigned_abs number ≤ most) numbers

-- along the arc, the numbers of the vertices rise by at most its cost
abbrev pub IsKept : (ℕ → ℤ) → Arc → Type 0
IsKept numbers arc = numbers arc.head ≤ℤ (numbers arc.tail +ℤ arc.cost)

-- numbers of vertices that keep the costs: 0 at vertex 0, and along no arc do they rise by more than its cost
pub record KeepCosts (arcs : List Arc) (numbers : ℕ → ℤ) : Type 0 where
  pub start : numbers 0 ≡ pos 0
  pub along : All (IsKept numbers) arcs

-- arcs between this many vertices; some numbers keep their costs, and all numbers that do are at most `farthest` in size
pub record AreTight (vertices : ℕ) (arcs : List Arc) : Type 0 where
  pub some : 1 ≤ vertices
  pub few : vertices ≤ max_vertices
  pub ends : All (IsArc vertices) arcs
  pub known : ∥ ((numbers : ℕ → ℤ) × KeepCosts arcs numbers) ∥₁
  pub near : (numbers : ℕ → ℤ) → KeepCosts arcs numbers → (vertex : ℕ) → vertex < vertices → unsigned_abs (numbers vertex) ≤ farthest

-- distances from vertex 0: the largest numbers that keep the costs
pub record AreDistances (vertices : ℕ) (arcs : List Arc) (distances : List ℤ) : Type 0 where
  pub within : AreWithin vertices farthest distances
  pub keep : KeepCosts arcs (value_at distances)
  pub greatest : (numbers : ℕ → ℤ) → KeepCosts arcs numbers → (vertex : ℕ) → vertex < vertices → numbers vertex ≤ℤ value_at distances vertex
