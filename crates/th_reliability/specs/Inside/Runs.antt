-- Observations in the order of books and lines.
use Rattle.std.specs.Prelude.{◌≡◌, ℕ, ◌+◌, ◌<◌, ◌≤◌, ◌==◌, ◌&&◌, ◌||◌, Bool, List, length, nat_lt, slice_index_or}
use Rattle.th_observations.specs.Observed.{Observed}

-- whether an observation comes before a line of a book
abbrev pub is_before : ℕ → ℕ → Observed → Bool
is_before book line o = nat_lt o.book book || ((o.book == book) && nat_lt o.line line)

-- an observation is not after another: its book is no later one, and in the same book its line is no later one
abbrev pub IsNoLater : Observed → Observed → Type 0
IsNoLater o other = (o.book ≤ other.book) × (o.book ≡ other.book → o.line ≤ other.line)

-- observations are in the order of books and lines
abbrev pub AreInOrder : List Observed → Type 0
AreInOrder observations = (k : ℕ) (d : Observed) → k + 1 < length observations → IsNoLater (slice_index_or observations k d) (slice_index_or observations (k + 1) d)
