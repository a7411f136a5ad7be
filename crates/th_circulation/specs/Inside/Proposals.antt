use Rattle.std.specs.Prelude.{ℤ, List}
use Rattle.th_search.specs.Potentials.{IsFeasible}
use Rattle.th_search.specs.declared.arcs.Arc.{Arc}

-- the arcs have no potentials, whatever the values at the vertices
abbrev pub HasNoPotentials : List Arc → Type 0
HasNoPotentials arcs = (values : List ℤ) → ¬ IsFeasible arcs values
