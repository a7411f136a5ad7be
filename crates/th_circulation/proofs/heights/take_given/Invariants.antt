use Rattle.std.proofs.Common.{◌<◌, ◌≤◌, ℕ, unsigned_abs}
use Rattle.th_circulation.specs.Inside.Bounds.{height_bound, raised_bound}
use Rattle.th_search.specs.Potentials.{value_at}
use Rattle.th_circulation.proofs.heights.take_given.Given as goal

abbrev pub invariant-loop-vertex : goal.invariant-loop-vertex
invariant-loop-vertex l =
    ((v : ℕ) → v < l.vertex → unsigned_abs (value_at l.heights v) ≤ height_bound)
    × ((v : ℕ) → unsigned_abs (value_at l.heights v) ≤ raised_bound)
