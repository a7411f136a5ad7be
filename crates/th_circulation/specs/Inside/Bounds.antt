-- Bounds that follow from the limits of networks, tables and searches.
use Rattle.std.specs.Prelude.{ℕ, ◌+◌, ◌*◌, ◌/◌, ◌<◌, ◌≤◌, ℤ, ◌-ℤ◌, List, unsigned_abs}
use Rattle.th_search.specs.Limits.{max_cost}
pub use Rattle.th_search.specs.Limits.{farthest}
use Rattle.th_search.specs.Potentials.{value_at}
use Rattle.th_tables.specs.Limits.{max_weight}

-- the largest residual capacity: twice the largest weight
abbrev pub most_room : ℕ
most_room = 2 * max_weight

-- the largest size of heights within a phase and at its end: a quarter of the largest cost of an arc
abbrev pub height_bound : ℕ
height_bound = max_cost / 4

-- the largest size of heights that were raised by the potentials of a search
abbrev pub raised_bound : ℕ
raised_bound = height_bound + farthest

-- the largest size of a rise from vertex 0, once a search raised the heights: none of its potentials is above 0, so two of them differ by at most `farthest`
abbrev pub rise_bound : ℕ
rise_bound = 2 * height_bound + farthest

-- from vertex 0 to each of the vertices, the heights rise or fall by at most `rise_bound`
abbrev pub HaveSmallRises : ℕ → List ℤ → Type 0
HaveSmallRises vertices heights = (vertex : ℕ) → vertex < vertices → unsigned_abs (value_at heights vertex -ℤ value_at heights 0) ≤ rise_bound
