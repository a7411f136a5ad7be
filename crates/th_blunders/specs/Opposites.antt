use Rattle.std.specs.Prelude.{ℕ, ℤ, ◌-◌, ◌+ℤ◌, Bool, List, Option, filter, length, option_map, slice_get, take}
use Rattle.std.specs.List.{enumerate_from, filter_map}
use Rattle.gsi_word.specs.Names.{same_pair}
use Rattle.th_observations.specs.Observed.{Observed}
use Rattle.th_blunders.specs.declared.pairs.Opposite.{Opposite}

-- the last item of a list
abbrev pub last_of : {X : Type 0} → List X → Option X
last_of xs = slice_get xs (length xs - 1)

-- the observation runs from the first of two points to the second
abbrev pub runs_between : List ℕ × List ℕ → Observed → Bool
runs_between ends o = same_pair (o.station, o.target) ends

-- the last observation between two points in this order, with its number, from 1
abbrev pub latest : List Observed → List ℕ × List ℕ → Option (ℕ × Observed)
latest observations ends = last_of (filter (λ numbered. runs_between ends numbered.1) (enumerate_from 1 observations))

-- an observation, by its number and difference, with the number of an earlier one and the sum of both differences
abbrev pub opposite_to : ℕ → ℤ → ℕ × ℤ → Opposite
opposite_to number difference earlier = record { number = number; earlier = earlier.0; sum = difference +ℤ earlier.1 }

-- an observation with the last earlier one that runs from its target to its station
abbrev pub opposite_of : List Observed → ℕ × Observed → Option Opposite
opposite_of observations numbered =
    option_map (λ earlier. opposite_to numbered.0 numbered.1.difference (earlier.0, earlier.1.difference))
    (latest (take (numbered.0 - 1) observations) (numbered.1.target, numbered.1.station))

-- the opposites of all observations that have one, in order
abbrev pub opposites : List Observed → List Opposite
opposites observations = filter_map (opposite_of observations) (enumerate_from 1 observations)
