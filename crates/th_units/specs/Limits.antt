use Rattle.std.specs.Prelude.{ℕ, ◌^◌}
-- the largest size of a length in a book
pub use Rattle.th_limits.specs.Limits.{max_len}

-- every size that a text in metres writes is below this: nine digits before the dot and eight after it, in units of 10 nm
abbrev pub size_limit : ℕ
size_limit = 10 ^ 17
