use Rattle.std.proofs.Common.{◌<◌, ◌≤◌, ℕ, unsigned_abs}
use Rattle.th_search.specs.Potentials.{value_at}
use Rattle.tests_circulation.proofs.searches.deepest.Given as goal

abbrev pub invariant-loop-potential : goal.invariant-loop-potential
invariant-loop-potential l =
    (l.deepest ≤ l.most)
    × ((v : ℕ) → v < l.potential-index → unsigned_abs (value_at l.potentials v) ≤ l.deepest)
