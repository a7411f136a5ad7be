-- Counts and lists over the places below a bound, in ascending order.
use Rattle.std.specs.Prelude.{ℕ, zero, suc, ◌+◌, ◌++◌, Bool, List, [], if◌then◌else◌}

-- how many places below a bound pass a test
abbrev pub count_below : (ℕ → Bool) → ℕ → ℕ
count_below test zero = 0
count_below test (suc bound) = count_below test bound + (if test bound then 1 else 0)

-- the lists that the places below a bound give, joined in ascending order
abbrev pub all_below : {X : Type 0} → (ℕ → List X) → ℕ → List X
all_below gives zero = []
all_below gives (suc bound) = all_below gives bound ++ gives bound
