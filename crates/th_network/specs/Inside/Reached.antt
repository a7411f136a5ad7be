-- Which places are reached from those that have a height.
use Rattle.std.specs.Prelude.{◌≡◌, ◌↔◌, ◌<◌, ℕ, ℤ, Bool, List, Option, Some, MatchOption, length, slice_get}
use Rattle.th_network.specs.Inside.Marks.{IsMarked}
use Rattle.th_network.specs.Inside.Neighbours.{Joins}

-- a place is reached if it has a height, or if an observation joins it to a place that is reached
pub data IsReached (heights : List (Option ℤ)) (ends : List (ℕ × ℕ)) : ℕ → Type 0 where
  by_height : (place : ℕ) (height : ℤ) → slice_get heights place ≡ Some (Some height) → IsReached heights ends place
  joined : (place other : ℕ) → Joins ends place other → IsReached heights ends other → IsReached heights ends place

-- `found` is none if all places are reached, or else the name of the first place that is not
abbrev pub IsFirstUnreached : List (Option ℤ) → List (ℕ × ℕ) → List (List ℕ) → Option (List ℕ) → Type 0
IsFirstUnreached heights ends names found =
    MatchOption found ((place : ℕ) → place < length names → IsReached heights ends place) (λ name. (k : ℕ) × (slice_get names k ≡ Some name) × ((place : ℕ) → place < k → IsReached heights ends place) × (¬ IsReached heights ends k))

-- exactly the places that are reached are marked
pub record AreReached (heights : List (Option ℤ)) (ends : List (ℕ × ℕ)) (marked : List Bool) : Type 0 where
  pub size : length marked ≡ length heights
  pub reached : (place : ℕ) → IsMarked marked place ↔ IsReached heights ends place
