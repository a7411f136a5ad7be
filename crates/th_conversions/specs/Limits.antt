use Rattle.std.specs.Prelude.{ℕ}
pub use Rattle.th_units.specs.Limits.{max_len}
pub use Rattle.th_book.specs.Limits.{max_book}

-- the most bytes that a table of differences has: 4 MiB
abbrev pub max_differences : ℕ
max_differences = 4194304

-- one unit of a printed length, 1/100 mm, in units of 10 nm
abbrev pub hundredth : ℕ
hundredth = 1000
