-- The heights that fit, and which of them are nearest to their middle.
use Rattle.std.specs.Prelude.{ℕ, ℤ, pos, ◌+ℤ◌, ◌-ℤ◌, ◌==◌, ◌&&◌, ◌||◌, Bool, int_le, int_lt, nat_lt, unsigned_abs}
use Rattle.th_meant.specs.declared.proposed.Proposed.{Proposed}

-- a height counts: it is among those that fit, or at most the tolerance outside
abbrev pub is_within : Proposed → ℤ → Bool
is_within proposed height =
    int_le (proposed.low -ℤ pos proposed.tolerance) height && int_le height (proposed.high +ℤ pos proposed.tolerance)

-- twice the distance of a height from the middle of those that fit
abbrev pub from_middle : Proposed → ℤ → ℕ
from_middle proposed height = unsigned_abs ((height +ℤ height) -ℤ (proposed.low +ℤ proposed.high))

-- a height is nearer to the middle than another; of two equally near ones the smaller is
abbrev pub is_nearer : Proposed → ℤ → ℤ → Bool
is_nearer proposed one other =
    nat_lt (from_middle proposed one) (from_middle proposed other)
    || (from_middle proposed one == from_middle proposed other && int_lt one other)
