use Rattle.std.specs.Prelude.{ℕ, ◌<◌, ℤ, pos, ◌+ℤ◌, ◌≤ℤ◌, List, sum_by, unsigned_abs}
use Rattle.th_search.specs.declared.arcs.Arc.{Arc}
use Rattle.th_search.specs.Limits.{farthest}
use Rattle.th_search.specs.Potentials.{value_at}
use Rattle.th_search.specs.Distances.{AreWithin, KeepCosts}

-- a label for each vertex, which is at least its number in all numbers that keep the costs
pub record AreLabels (vertices : ℕ) (arcs : List Arc) (labels : List ℤ) : Type 0 where
  pub within : AreWithin vertices farthest labels
  pub start : value_at labels 0 ≤ℤ pos 0
  pub above : (numbers : ℕ → ℤ) → KeepCosts arcs numbers → (vertex : ℕ) → vertex < vertices → numbers vertex ≤ℤ value_at labels vertex

-- how far the labels can still fall in total
abbrev pub room : List ℤ → ℕ
room labels = sum_by (λ label. unsigned_abs (label +ℤ pos farthest)) labels
