use Rattle.std.proofs.Common.{◌≡◌, ◌<◌, ◌≤◌, ℕ, ◌-ℤ◌}
use Rattle.th_search.specs.Potentials.{value_at}
use Rattle.th_circulation.proofs.heights.raise.Given as goal

abbrev pub invariant-loop-vertex : goal.invariant-loop-vertex
invariant-loop-vertex l =
    ((v : ℕ) → v < l.vertex → value_at l.heights v ≡ value_at l.fn.heights v -ℤ value_at l.potentials v)
    × ((v : ℕ) → l.vertex ≤ v → value_at l.heights v ≡ value_at l.fn.heights v)
