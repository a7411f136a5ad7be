use Rattle.std.specs.Prelude.{◌≡◌, ℕ, ◌+◌, ◌<◌, ◌≤◌, suc, Bool, true, false, List, [], ◌∷◌, All, Contains, slice_index_or, if◌then◌else◌}
use Rattle.th_cuts.specs.CutWeights.{cut_weight}
use Rattle.th_cuts.specs.declared.edges.Edge.{Edge}
use Rattle.th_cuts.specs.declared.drains.Drained.{Drained}
use Rattle.th_cuts.specs.declared.drains.Drained.TheVariants.{Less, Just, More}

-- a vertex is on the side
abbrev pub on_side : List Bool → ℕ → Bool
on_side side vertex = slice_index_or side vertex false

-- the room at a vertex, and what else a list has for each vertex
abbrev pub room_at : List ℕ → ℕ → ℕ
room_at rooms vertex = slice_index_or rooms vertex 0

-- the total room at the vertices inside
abbrev pub room_in : List ℕ → (ℕ → Bool) → ℕ
room_in [] inside = 0
room_in (room ∷ rooms) inside = (if inside 0 then room else 0) + room_in rooms (λ vertex. inside (suc vertex))

-- what the inside drains: the weight of the edges that cross, and the room at its vertices
abbrev pub drain : List Edge → List ℕ → (ℕ → Bool) → ℕ
drain edges rooms inside = cut_weight inside edges + room_in rooms inside

-- the side contains the source and drains this much, and no set that contains the source drains less
pub record IsLeastDrain (edges : List Edge) (rooms : List ℕ) (source value : ℕ) (side : List Bool) : Type 0 where
  pub holds : on_side side source ≡ true
  pub drains : drain edges rooms (on_side side) ≡ value
  pub least : (inside : ℕ → Bool) → inside source ≡ true → value ≤ drain edges rooms inside

-- How the sets that contain the source compare with `most`. Less: one drains this much, which is less, and none drains less than it. Just: one drains as much and
-- lacks a wanted vertex, and none drains less. More: none drains less, and those that drain as much contain all wanted vertices.
abbrev pub IsDrained : List Edge → List ℕ → ℕ → ℕ → List ℕ → Drained → Type 0
IsDrained edges rooms source most wanted (Less value side) = IsLeastDrain edges rooms source value side.items × (value < most)
IsDrained edges rooms source most wanted (Just side) =
    IsLeastDrain edges rooms source most side.items × ((vertex : ℕ) × Contains wanted vertex × (on_side side.items vertex ≡ false))
IsDrained edges rooms source most wanted More =
    ((inside : ℕ → Bool) → inside source ≡ true → most ≤ drain edges rooms inside)
    × ((inside : ℕ → Bool) → inside source ≡ true → drain edges rooms inside ≡ most → All (λ vertex. inside vertex ≡ true) wanted)
