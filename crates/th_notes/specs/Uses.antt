-- How often names are used.
use Rattle.std.specs.Prelude.{◌≡◌, ◌==◌, ℕ, ◌&&◌, ◌||◌, ◌++◌, not, Bool, false, List, [], ◌∷◌, Option, Some, None, if◌then◌else◌}
use Rattle.std.specs.List.{flat_map, list_any}
use Rattle.gsi_word.specs.Names.{same_name}
use Rattle.th_observations.specs.Observed.{Observed}
use Rattle.th_notes.specs.Inside.Sets.{has_name}
use Rattle.th_notes.specs.declared.uses.UsedNames.{UsedNames}

-- whether a name is among some names
abbrev pub is_used : List (List ℕ) → List ℕ → Bool
is_used names name = list_any (λ own. same_name own name) names

-- whether a name is there at least twice
abbrev pub is_used_again : List (List ℕ) → List ℕ → Bool
is_used_again [] name = false
is_used_again (own ∷ names) name = (same_name own name && is_used names name) || is_used_again names name

-- the ends of observations, the station before the target
abbrev pub all_ends : List Observed → List (List ℕ)
all_ends observations = flat_map (λ o. o.station ∷ o.target ∷ []) observations

-- an observation goes on from the one before it: from the same station in the same book
abbrev pub goes_on : Option Observed → Observed → Bool
goes_on None o = false
goes_on (Some before) o = (before.book == o.book) && same_name before.station o.station

-- what an observation uses after the one before it: its station, unless it goes on, and its target
abbrev pub uses_at : Option Observed → Observed → List (List ℕ)
uses_at before o = (if goes_on before o then [] else o.station ∷ []) ++ o.target ∷ []

-- what observations use, after the one before them
abbrev pub uses_after : Option Observed → List Observed → List (List ℕ)
uses_after before [] = []
uses_after before (o ∷ rest) = uses_at before o ++ uses_after (Some o) rest

-- what observations use: a station once for observations that follow one another in a book, and each target
abbrev pub uses_of : List Observed → List (List ℕ)
uses_of observations = uses_after None observations

-- whether a name is used once
abbrev pub is_used_once : List (List ℕ) → List ℕ → Bool
is_used_once names name = is_used names name && not (is_used_again names name)

-- the sets have the names that are used, and those that are used again
pub record AreUsed (names : List (List ℕ)) (used : UsedNames) : Type 0 where
  pub seen : (name : List ℕ) → has_name used.names name ≡ is_used names name
  pub again : (name : List ℕ) → has_name used.again name ≡ is_used_again names name
