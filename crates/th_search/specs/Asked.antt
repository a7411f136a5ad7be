-- What a search was asked last.
use Rattle.std.specs.Prelude.{ℕ, ℤ, List, Option, None, Some, Result, Ok, Err}
use Rattle.th_search.specs.declared.arcs.Arc.{Arc}
use Rattle.th_search.specs.declared.last_calls.LastCall.{LastCall}
use Rattle.th_search.specs.declared.searches.Found.{Found}
use Rattle.th_search.specs.declared.searches.Found.TheVariants.{Potentials, Cycle}

-- the potentials of an answer, if it has any
abbrev pub potentials_in : {E : Type 0} → Result Found E → Option (List ℤ)
potentials_in (Ok (Potentials potentials)) = Some potentials.items
potentials_in (Ok (Cycle cycle)) = None
potentials_in (Err refused) = None

-- a question, and the potentials that were answered, if any were
pub record Asked : Type 0 where
  pub vertices : ℕ
  pub arcs : List Arc
  pub potentials : Option (List ℤ)

-- what a call asked that found this among so many vertices and these arcs
abbrev pub asked_of : {E : Type 0} → ℕ → List Arc → Result Found E → Asked
asked_of vertices arcs found = record { vertices = vertices; arcs = arcs; potentials = potentials_in found }

-- what the last call was about
abbrev pub asked_in : LastCall → Asked
asked_in call = asked_of call.vertices call.arcs.value.items call.found.value

abbrev pub asked_last : Option LastCall → Option Asked
asked_last None = None
asked_last (Some call) = Some (asked_in call)
