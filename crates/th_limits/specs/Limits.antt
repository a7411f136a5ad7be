use Rattle.std.specs.Prelude.{ℕ, ◌+◌, ◌*◌}

-- the largest size of a length in a book: 10 km, in units of 10 nm
abbrev pub max_len : ℕ
max_len = 1000000000000

-- the largest weight
abbrev pub max_weight : ℕ
max_weight = 1000

-- the most observations that a network takes
abbrev pub max_observations : ℕ
max_observations = 40000

-- the most points that a network takes
abbrev pub max_points : ℕ
max_points = 4000

-- the most books that a command takes
abbrev pub max_books : ℕ
max_books = 16

-- the number of calls of a device or a search that contracts cover: 10^36
abbrev pub max_calls : ℕ
max_calls = 1000000000000000000000000000000000000

-- the most calls of a device or a search before a run: 10^30
abbrev pub calls_before : ℕ
calls_before = 1000000000000000000000000000000

-- the largest sum of the weights of a network's observations
abbrev pub max_total_weight : ℕ
max_total_weight = max_weight * max_observations

-- the largest size of an observed difference: three lengths, 30 km
abbrev pub largest_difference : ℕ
largest_difference = 3 * max_len

-- the largest size of a link's difference: an observed difference and the heights of two benchmarks, 50 km
abbrev pub largest_link_difference : ℕ
largest_link_difference = largest_difference + 2 * max_len
