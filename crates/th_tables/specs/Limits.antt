use Rattle.std.specs.Prelude.{ℕ}
pub use Rattle.th_limits.specs.Limits.{max_weight}

-- the most bytes that a table has: 1 MiB
abbrev pub max_table : ℕ
max_table = 1048576

-- the most digits of a weight, leading zeros included
abbrev pub max_weight_digits : ℕ
max_weight_digits = 4
