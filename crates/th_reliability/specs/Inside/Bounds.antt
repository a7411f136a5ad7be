-- What the controls of a group's observations tell about a mistake that the group shares.
use Rattle.std.specs.Prelude.{◌≡◌, ℕ, ◌+◌, ◌<◌, ◌≤◌, Bool, true, Option, Some, None, nat_lt, slice_index_or}
use Rattle.th_observations.specs.Observed.{Observed}
use Rattle.th_tables.specs.Rows.{weight_of}
use Rattle.th_network.specs.Networks.{Survey}
use Rattle.th_reliability.specs.Numbers.{HasControl}

-- an observation has no control, or there is a bound `least` and its control and weight together are at least that
abbrev pub IsNoLess : Option ℕ → Option ℕ → ℕ → Type 0
IsNoLess least None weight = Unit {0}
IsNoLess None (Some control) weight = ⊥
IsNoLess (Some least) (Some control) weight = least ≤ control + weight

-- `IsNoLess` holds for every observation of a group among the first `count`
abbrev pub AreNoLess : Survey → (Observed → Bool) → Option ℕ → ℕ → Type 0
AreNoLess survey group least count =
    (k : ℕ) (d : Observed) → k < count → group (slice_index_or survey.observations k d) ≡ true
    → (control : Option ℕ) × HasControl survey (slice_index_or survey.observations k d) control × IsNoLess least control (weight_of survey.weights (slice_index_or survey.observations k d).station (slice_index_or survey.observations k d).target)

-- the bound, if there is one, is above twice a weight
abbrev pub is_above_twice : Option ℕ → ℕ → Bool
is_above_twice None weight = true
is_above_twice (Some least) weight = nat_lt (weight + weight) least
