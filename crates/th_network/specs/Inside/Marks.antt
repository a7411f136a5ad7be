-- Places that are marked, and places that wait.
use Rattle.std.specs.Prelude.{◌≡◌, ℕ, ◌+◌, ◌⊎◌, Bool, true, List, Option, ℤ, Some, Contains, if◌then◌else◌, length, slice_get, sum_by, map, is_some}
use Rattle.th_network.specs.declared.marks.Marks.{Marks}

-- the place is marked
abbrev pub IsMarked : List Bool → ℕ → Type 0
IsMarked marked place = slice_get marked place ≡ Some true

-- how many places are not marked
abbrev pub unmarked_count : List Bool → ℕ
unmarked_count marked = sum_by (λ mark. if mark then 0 else 1) marked

-- the places that have a height, and no others, are marked and wait
pub record IsSeeded (heights : List (Option ℤ)) (marked : List Bool) (waiting : List ℕ) : Type 0 where
  pub marks : marked ≡ map is_some heights
  pub all_wait : (place : ℕ) → IsMarked marked place → Contains waiting place
  pub no_other : (place : ℕ) → Contains waiting place → IsMarked marked place

-- marks and waiting places only grow: each newly marked place waits, each newly waiting place is marked, and as many new places wait as are marked
pub record Spreads (marked : List Bool) (waiting : List ℕ) (marked' : List Bool) (waiting' : List ℕ) : Type 0 where
  pub size : length marked' ≡ length marked
  pub kept : (place : ℕ) → IsMarked marked place → IsMarked marked' place
  pub still_waits : (place : ℕ) → Contains waiting place → Contains waiting' place
  pub new_waits : (place : ℕ) → IsMarked marked' place → IsMarked marked place ⊎ Contains waiting' place
  pub no_other : (place : ℕ) → Contains waiting' place → Contains waiting place ⊎ IsMarked marked' place
  pub work : unmarked_count marked' + length waiting' ≡ unmarked_count marked + length waiting

-- these places are marked, and no others but those marked before
pub record AreAdded (places : List ℕ) (marked marked' : List Bool) : Type 0 where
  pub all : (place : ℕ) → Contains places place → IsMarked marked' place
  pub no_other : (place : ℕ) → IsMarked marked' place → IsMarked marked place ⊎ Contains places place

-- these places are marked, no others but those marked before, and those marked now wait
pub record MarksAll (places : List ℕ) (old new : Marks) : Type 0 where
  pub added : AreAdded places old.marked.items new.marked.items
  pub spreads : Spreads old.marked.items old.waiting.items new.marked.items new.waiting.items
