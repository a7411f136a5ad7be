use Rattle.std.proofs.Common.{◌≡◌, ◌<◌, ◌≤◌, ℕ, pos, ◌-ℤ◌}
use Rattle.th_search.specs.Potentials.{value_at}
use Rattle.tests_circulation.proofs.searches.sink.Given as goal

abbrev pub invariant-loop-potential : goal.invariant-loop-potential
invariant-loop-potential l =
    ((v : ℕ) → v < l.potential-index → value_at l.potentials v ≡ value_at l.fn.potentials v -ℤ pos l.room)
    × ((v : ℕ) → l.potential-index ≤ v → value_at l.potentials v ≡ value_at l.fn.potentials v)
