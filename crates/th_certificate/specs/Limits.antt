use Rattle.std.specs.Prelude.{ℕ, ◌+◌, ◌*◌}
use Rattle.th_observations.specs.Observed.{largest_difference}
use Rattle.th_network.specs.Limits.{height_limit, max_observations}

-- the most bytes that a certificate has: 8 MiB
abbrev pub max_certificate : ℕ
max_certificate = 8388608

-- the most observations that a certificate may count
abbrev pub max_flows : ℕ
max_flows = max_observations

-- the most digits of a count, of a flow, of a flow's number, and of a height before its dot; leading zeros included
abbrev pub max_digits : ℕ
max_digits = 9

-- the most digits of a cost, leading zeros included
abbrev pub max_cost_digits : ℕ
max_cost_digits = 30

-- the largest size of a residual: an observed difference and two heights
abbrev pub most_residual : ℕ
most_residual = largest_difference + 2 * height_limit
