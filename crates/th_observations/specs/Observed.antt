use Rattle.std.specs.Prelude.{◌≢◌, ◌≤◌, ℕ, ℤ, List, unsigned_abs}
pub use Rattle.th_limits.specs.Limits.{largest_difference}

-- a height difference observed from a station to a target, in units of 10 nm, and its place: the book's number and the line, both from 1
pub record Observed : Type 0 where
  pub station : List ℕ
  pub target : List ℕ
  pub difference : ℤ
  pub book : ℕ
  pub line : ℕ

-- the ends are two different points, and the difference is at most three lengths in size
pub record IsBetweenPoints (observed : Observed) : Type 0 where
  pub distinct : observed.station ≢ observed.target
  pub in_range : unsigned_abs observed.difference ≤ largest_difference
