-- Which points observations have as their ends, and between which they run.
use Rattle.std.specs.Prelude.{ℕ, ◌||◌, Bool, List}
use Rattle.std.specs.List.{list_any}
use Rattle.gsi_word.specs.Names.{same_name, same_pair}
use Rattle.th_observations.specs.Observed.{Observed}

-- whether a point is an end of an observation
abbrev pub has_end : List ℕ → Observed → Bool
has_end name o = same_name o.station name || same_name o.target name

-- whether a point is an end of some observation
abbrev pub was_seen : List Observed → List ℕ → Bool
was_seen observations name = list_any (has_end name) observations

-- whether an observation runs from the first of two points to the second
abbrev pub was_observed : List Observed → List ℕ × List ℕ → Bool
was_observed observations ends = list_any (λ o. same_pair (o.station, o.target) ends) observations

-- whether a point is the station of an observation
abbrev pub is_station : List Observed → List ℕ → Bool
is_station observations name = list_any (λ o. same_name o.station name) observations
