use Rattle.std.specs.Prelude.{ℕ, ◌<◌, ◌≤◌, All, ℤ, List, Option, length}
use Rattle.th_search.specs.Limits.{max_arcs, max_vertices}
use Rattle.th_search.specs.Walks.{IsArc}
use Rattle.th_search.specs.Potentials.{IsFeasible}
use Rattle.th_search.specs.Inside.Entries.{IsOnCycle}
use Rattle.th_search.specs.Inside.Labels.{AreLabels, IsForest, room}
use Rattle.th_search.specs.declared.arcs.Arc.{Arc}
use Rattle.th_search.specs.declared.passes.Pass.{Pass}
use Rattle.th_search.specs.declared.passes.Pass.TheVariants.{Lowered, Done, Closed}

-- what a pass found: labels fell; or no arc improves one, and the entries form a forest; or the entries lead from a vertex back to itself
abbrev pub IsPass : List Arc → List ℤ → List ℤ → List (Option ℕ) → Pass → Type 0
IsPass arcs old new entries Lowered = room new < room old
IsPass arcs old new entries Done = IsFeasible arcs new × IsForest arcs entries
IsPass arcs old new entries (Closed vertex) = (vertex < length new) × IsOnCycle arcs entries vertex

-- a pass may begin: the arcs are not too many, their ends have labels, and the entries lead back from every vertex to one that was not entered
pub record IsReady (all : List Arc) (values : List ℤ) (entries : List (Option ℕ)) : Type 0 where
  pub arcs : All (IsArc (length values)) all
  pub many : length all ≤ max_arcs
  pub size : length values ≤ max_vertices
  pub labels : AreLabels all values entries
  pub forest : IsForest all entries
