use Rattle.std.specs.Prelude.{◌≡◌, ◌≢◌, ℕ, ◌<◌, ◌≤◌, List, Option, All, length, slice_index_or}
use Rattle.th_search.specs.Limits.{max_vertices}
use Rattle.th_search.specs.Walks.{IsArc}
use Rattle.th_search.specs.Inside.Entries.{AreEntries, IsRooted}
use Rattle.th_search.specs.declared.arcs.Arc.{Arc}

-- the mark of a vertex; 0 if it has none
abbrev pub mark_at : List ℕ → ℕ → ℕ
mark_at marks vertex = slice_index_or marks vertex 0

-- the vertices over which entries lead back can be marked: there is a mark and an entry for each, the ends of the arcs are among them, and they are not too many
pub record CanMark (arcs : List Arc) (entries : List (Option ℕ)) (marks : List ℕ) : Type 0 where
  pub ends : All (IsArc (length entries)) arcs
  pub entered : AreEntries (length entries) arcs entries
  pub few : length entries ≤ max_vertices
  pub each : length marks ≡ length entries

-- the first `count` vertices are marked, no mark is above `count`, and the entries lead back from every marked vertex to one that was not entered
pub record AreMarked (arcs : List Arc) (entries : List (Option ℕ)) (marks : List ℕ) (count : ℕ) : Type 0 where
  pub each : (vertex : ℕ) → vertex < count → mark_at marks vertex ≢ 0
  pub most : (vertex : ℕ) → mark_at marks vertex ≤ count
  pub rooted : (vertex : ℕ) → mark_at marks vertex ≢ 0 → IsRooted arcs entries vertex
