-- Bounds that follow from the limits of searches.
use Rattle.std.specs.Prelude.{ℕ, ◌+◌, ◌*◌}
use Rattle.th_search.specs.Limits.{max_arcs, max_cost, max_vertices}

-- the largest size of a label between passes: the largest cost, once for each vertex
abbrev pub most_between : ℕ
most_between = max_vertices * max_cost

-- the largest size of a label within a pass: in addition the largest cost, once for each arc
abbrev pub most_within : ℕ
most_within = most_between + max_arcs * max_cost
