-- The input of a search.
use Rattle.std.specs.Prelude.{ℕ, ◌≤◌, List, All, length}
use Rattle.th_search.specs.Limits.{max_arcs, max_vertices}
use Rattle.th_search.specs.Walks.{IsArc}
use Rattle.th_search.specs.declared.arcs.Arc.{Arc}

-- n vertices, at least one, and arcs between them, within the limits of a search
pub record IsSearched (n : ℕ) (all : List Arc) : Type 0 where
  pub some : 1 ≤ n
  pub vertices : n ≤ max_vertices
  pub many : length all ≤ max_arcs
  pub arcs : All (IsArc n) all
