use Rattle.tests_searches.specs.Levels.{rows_of}
use Rattle.tests_searches.proofs.TrailLemmas.{IsGoingBack}
use Rattle.tests_searches.proofs.level_search.cycle_back.Given as goal

abbrev pub invariant-loop-place : goal.invariant-loop-place
invariant-loop-place l = IsGoingBack l.n l.arcs (rows_of l.levels) l.walk.items l.places.items l.vertex l.place
