use Rattle.std.specs.Prelude.{◌≡◌, ℕ, ◌-◌, ◌<◌, ℤ, pos, ◌+ℤ◌, ◌≤ℤ◌, ◌<ℤ◌, List, Option, None, Some, length, sum_by, unsigned_abs}
use Rattle.th_search.specs.Walks.{arc_at}
use Rattle.th_search.specs.Potentials.{value_at}
use Rattle.th_search.specs.Inside.Bounds.{most_within}
use Rattle.th_search.specs.Inside.Entries.{AreEntries, IsRooted, entry_at}
use Rattle.th_search.specs.declared.arcs.Arc.{Arc}

-- the value at the arc's tail plus its cost is at most the value at its head, and it is less unless the tail ranks below the head
pub record Holds (arcs : List Arc) (values : List ℤ) (rank : ℕ → ℕ) (number : ℕ) : Type 0 where
  pub above : (value_at values (arc_at arcs number).tail +ℤ (arc_at arcs number).cost) ≤ℤ value_at values (arc_at arcs number).head
  pub ranked : value_at values (arc_at arcs number).tail +ℤ (arc_at arcs number).cost ≡ value_at values (arc_at arcs number).head → rank (arc_at arcs number).tail < rank (arc_at arcs number).head

-- Labels and entries: a vertex that was not entered has label zero, and no label is above zero. For some ranking of the
-- vertices, every entry fulfils `Holds`, so the arcs of a cycle of entries cost less than zero in total.
pub record AreLabels (arcs : List Arc) (values : List ℤ) (entries : List (Option ℕ)) : Type 0 where
  pub entered : AreEntries (length values) arcs entries
  pub start : (vertex : ℕ) → entry_at entries vertex ≡ None → value_at values vertex ≡ pos 0
  pub high : (vertex : ℕ) → value_at values vertex ≤ℤ pos 0
  pub falls : (rank : ℕ → ℕ) × ((vertex number : ℕ) → entry_at entries vertex ≡ Some number → Holds arcs values rank number)

-- the entries lead back from every vertex to one that was not entered
abbrev pub IsForest : List Arc → List (Option ℕ) → Type 0
IsForest arcs entries = (vertex : ℕ) → IsRooted arcs entries vertex

-- the label is the value at the arc's tail plus its cost, and it is below the value at the arc's head
pub record Improves (arcs : List Arc) (values : List ℤ) (number : ℕ) (label : ℤ) : Type 0 where
  pub is : label ≡ value_at values (arc_at arcs number).tail +ℤ (arc_at arcs number).cost
  pub below : label <ℤ value_at values (arc_at arcs number).head

-- how far the values can still fall in total within one pass
abbrev pub room : List ℤ → ℕ
room values = sum_by (λ value. most_within - unsigned_abs value) values
