use Rattle.std.specs.Prelude.{ℕ, ℤ, pos, ◌-ℤ◌, List}
use Rattle.th_network.specs.Networks.{AreAtPoints, Survey, vertices_of}
use Rattle.th_search.specs.declared.arcs.Arc.{Arc}
use Rattle.th_search.specs.Potentials.{value_at}
use Rattle.th_search.specs.Distances.{AreDistances}
use Rattle.th_circulation.specs.Inside.PointHeights.{ArePointHeights}

-- the numbers with the other sign
abbrev pub opposite : (ℕ → ℤ) → ℕ → ℤ
opposite numbers vertex = pos 0 -ℤ numbers vertex

-- heights in point order: every point that is no benchmark is as far below vertex 0 as its distance over these arcs
pub record AreBelow (survey : Survey) (arcs : List Arc) (heights : List ℤ) : Type 0 where
  pub distances : List ℤ
  pub long : AreDistances (vertices_of survey) arcs distances
  pub point_heights : ArePointHeights survey.observations survey.benchmarks (opposite (value_at distances)) heights
  pub points : AreAtPoints survey heights

-- heights in point order: every point that is no benchmark is as far above vertex 0 as its distance over these arcs
pub record AreAbove (survey : Survey) (arcs : List Arc) (heights : List ℤ) : Type 0 where
  pub distances : List ℤ
  pub long : AreDistances (vertices_of survey) arcs distances
  pub point_heights : ArePointHeights survey.observations survey.benchmarks (value_at distances) heights
  pub points : AreAtPoints survey heights
