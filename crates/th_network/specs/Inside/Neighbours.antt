-- Which places an observation joins.
use Rattle.std.specs.Prelude.{◌≡◌, ◌↔◌, ◌⊎◌, ℕ, List, Some, Contains, length, slice_get}

-- some observation joins the two places, in either direction
abbrev pub Joins : List (ℕ × ℕ) → ℕ → ℕ → Type 0
Joins ends place other = Contains ends (place, other) ⊎ Contains ends (other, place)

-- the other place is in the list of a place
abbrev pub IsListed : List (List ℕ) → ℕ → ℕ → Type 0
IsListed lists place other = (others : List ℕ) × (slice_get lists place ≡ Some others) × Contains others other

-- for each of this many places, the list of exactly those that an observation joins to it
pub record AreNeighbours (count : ℕ) (ends : List (ℕ × ℕ)) (lists : List (List ℕ)) : Type 0 where
  pub size : length lists ≡ count
  pub joined : (place other : ℕ) → IsListed lists place other ↔ Joins ends place other
