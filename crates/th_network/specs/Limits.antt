use Rattle.std.specs.Prelude.{ℕ}
pub use Rattle.th_limits.specs.Limits.{max_observations, max_points}

-- every height of a network is below this in size: 10^17 units, a million kilometres
abbrev pub height_limit : ℕ
height_limit = 100000000000000000
