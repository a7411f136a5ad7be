use Rattle.std.specs.Prelude.{◌≡◌, ℕ, zero, suc, ◌<◌, List, Option, None, Some, length, slice_index_or, slice_set}
use Rattle.std.specs.Option.{option_map_or}
use Rattle.th_search.specs.Walks.{arc_at}
use Rattle.th_search.specs.declared.arcs.Arc.{Arc}

-- the number of the arc by which a vertex was entered, if it was
abbrev pub entry_at : List (Option ℕ) → ℕ → Option ℕ
entry_at entries vertex = slice_index_or entries vertex None

-- the arc with this number leads to the vertex
pub record IsEntry (arcs : List Arc) (vertex number : ℕ) : Type 0 where
  pub within : number < length arcs
  pub head : (arc_at arcs number).head ≡ vertex

-- one entry for each of n vertices: an arc that leads to the vertex, or none
pub record AreEntries (n : ℕ) (arcs : List Arc) (entries : List (Option ℕ)) : Type 0 where
  pub size : length entries ≡ n
  pub each : (vertex number : ℕ) → entry_at entries vertex ≡ Some number → IsEntry arcs vertex number

-- `depth` entries lead back from the vertex to one that was not entered
abbrev pub HasDepth : List Arc → List (Option ℕ) → ℕ → ℕ → Type 0
HasDepth arcs entries zero vertex = entry_at entries vertex ≡ None
HasDepth arcs entries (suc depth) vertex = (number : ℕ) × (entry_at entries vertex ≡ Some number) × HasDepth arcs entries depth (arc_at arcs number).tail

-- the entries lead back from the vertex to one that was not entered
abbrev pub IsRooted : List Arc → List (Option ℕ) → ℕ → Type 0
IsRooted arcs entries vertex = (depth : ℕ) × HasDepth arcs entries depth vertex

-- this many entries lead back from the vertex to the goal
abbrev pub MeetsAfter : List Arc → List (Option ℕ) → ℕ → ℕ → ℕ → Type 0
MeetsAfter arcs entries zero vertex goal = vertex ≡ goal
MeetsAfter arcs entries (suc steps) vertex goal = (number : ℕ) × (entry_at entries vertex ≡ Some number) × MeetsAfter arcs entries steps (arc_at arcs number).tail goal

-- the entries lead back from the vertex to the goal, which may be the vertex itself
abbrev pub Meets : List Arc → List (Option ℕ) → ℕ → ℕ → Type 0
Meets arcs entries vertex goal = (steps : ℕ) × MeetsAfter arcs entries steps vertex goal

-- one or more entries lead back from the vertex to itself
abbrev pub IsOnCycle : List Arc → List (Option ℕ) → ℕ → Type 0
IsOnCycle arcs entries vertex = (steps : ℕ) × MeetsAfter arcs entries (suc steps) vertex vertex

-- how many entries lead back from the vertex, counting no more than `fuel`
abbrev pub depth_within : List Arc → List (Option ℕ) → ℕ → ℕ → ℕ
depth_within arcs entries zero vertex = 0
depth_within arcs entries (suc fuel) vertex = option_map_or (λ number. suc (depth_within arcs entries fuel (arc_at arcs number).tail)) (entry_at entries vertex) 0

-- the entries without that of a vertex
abbrev pub cut_at : List (Option ℕ) → ℕ → List (Option ℕ)
cut_at entries vertex = slice_set entries vertex None
