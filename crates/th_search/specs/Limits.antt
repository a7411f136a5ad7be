use Rattle.std.specs.Prelude.{ℕ, ◌+◌, ◌*◌}
use Rattle.th_limits.specs.Limits.{largest_link_difference, max_observations, max_points}
pub use Rattle.th_limits.specs.Limits.{max_calls}

-- the most vertices that are searched: one for all benchmarks, and the points
abbrev pub max_vertices : ℕ
max_vertices = max_points + 1

-- the most arcs that are searched: two for each observation
abbrev pub max_arcs : ℕ
max_arcs = 2 * max_observations

-- the largest size of a cost: twice the largest difference of a link, 10^13
abbrev pub max_cost : ℕ
max_cost = 2 * largest_link_difference

-- the largest size of a potential: an arc of the largest cost for each vertex but one
abbrev pub farthest : ℕ
farthest = max_points * max_cost
