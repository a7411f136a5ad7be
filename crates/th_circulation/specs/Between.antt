-- Heights between two others.
use Rattle.std.specs.Prelude.{ℕ, ℤ, pos, ◌+ℤ◌, List, if◌then◌else◌, int_lt}

-- the heights, raised by so many units, but nowhere above the others
abbrev pub raised_up_to : ℕ → (List ℕ → ℤ) → (List ℕ → ℤ) → List ℕ → ℤ
raised_up_to k low high name = if int_lt (low name +ℤ pos k) (high name) then low name +ℤ pos k else high name
