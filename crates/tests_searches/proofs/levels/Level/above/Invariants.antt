use Rattle.tests_searches.proofs.LevelLemmas.{IsRising}
use Rattle.tests_searches.proofs.levels.Level.above.Given as goal

abbrev pub invariant-loop-number : goal.invariant-loop-number
invariant-loop-number l = IsRising l.arcs l.self.costs.items l.level.costs.items l.level.last.items l.number
