use Rattle.std.proofs.Common.{ℕ, ◌≡◌, ◌<◌, None, get_or}
use Rattle.tests_searches.proofs.levels.Level.lowered_vertex.Given as goal

abbrev pub invariant-loop-vertex : goal.invariant-loop-vertex
invariant-loop-vertex l = (k : ℕ) → k < l.vertex → get_or l.self.last.items k None ≡ None
