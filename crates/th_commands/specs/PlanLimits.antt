use Rattle.std.specs.Prelude.{ℕ}
pub use Rattle.th_limits.specs.Limits.{max_books}
pub use Rattle.th_commands.specs.Limits.{default_blunder, max_blunder, max_title}

-- how many units of 10 nm a micrometre has
abbrev pub units_in_micrometre : ℕ
units_in_micrometre = 100

-- how many micrometres a millimetre has
abbrev pub micrometres_in_millimetre : ℕ
micrometres_in_millimetre = 1000
