-- Books with the same observations.
use Rattle.std.specs.Prelude.{ℕ, ◌==◌, ◌&&◌, Bool, List, Option, map}
use Rattle.std.specs.List.{filter, position_from, range_with_len}
use Rattle.std.specs.Cmp.Lexicographic.{pointwise}
use Rattle.std.specs.Ordering.{int_eq}
use Rattle.gsi_word.specs.Names.{same_name}
use Rattle.th_observations.specs.Observed.{Observed}

-- the observations of a numbered book
abbrev pub observations_in : List Observed → ℕ → List Observed
observations_in observations book = filter (λ o. o.book == book) observations

-- the observations of books 1 to `count`, book by book
abbrev pub by_book : List Observed → ℕ → List (List Observed)
by_book observations count = map (observations_in observations) (range_with_len 1 count)

-- whether two observations have the same station, the same target and the same difference
abbrev pub says_same : Observed → Observed → Bool
says_same o other = same_name o.station other.station && (same_name o.target other.target && int_eq o.difference other.difference)

-- whether two lists have the same number of observations, and the same ones in the same order
abbrev pub are_same : List Observed → List Observed → Bool
are_same = pointwise says_same

-- the number, counted from 1, of the first of some books that has the same observations as this one
abbrev pub first_same : List (List Observed) → List Observed → Option ℕ
first_same books own = position_from (λ earlier. are_same earlier own) 1 books
