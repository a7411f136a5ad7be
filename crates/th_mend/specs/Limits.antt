use Rattle.std.specs.Prelude.{ℕ}
pub use Rattle.th_units.specs.Limits.{max_len}

-- the most bytes that a table of changes has: 64 KiB
abbrev pub max_changes : ℕ
max_changes = 65536
