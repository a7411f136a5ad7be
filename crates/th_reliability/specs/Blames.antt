-- What a mistake that does not show would move, and what would be blamed for it.
use Rattle.std.specs.Prelude.{◌≡◌, ℕ, ◌+◌, ◌<◌, ◌≤◌, Bool, List, Option, Some, None, count_by, if◌then◌else◌, map, nat_lt, slice_index}
use Rattle.std.specs.List.{zip}
use Rattle.th_observations.specs.Observed.{Observed}
use Rattle.th_tables.specs.Rows.{weight_of}
use Rattle.th_network.specs.Networks.{Survey, points_of}
use Rattle.th_reliability.specs.Cuts.{crosses}
use Rattle.th_reliability.specs.declared.blames.Blame.{Blame}

-- the weight with which an observation is blamed if a set moves: its own if it crosses the set and has no part in the mistake, and else 0
abbrev pub blamed_weight : Survey → (List ℕ → Bool) → Observed × Bool → ℕ
blamed_weight survey inside (o, mistaken) = if mistaken then 0 else (if crosses inside o then weight_of survey.weights o.station o.target else 0)

-- that of each observation, given which of them have a part in the mistake
abbrev pub blamed_weights : Survey → List Bool → (List ℕ → Bool) → List ℕ
blamed_weights survey mistaken inside = map (blamed_weight survey inside) (zip survey.observations mistaken)

-- the first of the heaviest is at this place, and weighs something
pub record IsFirstHeaviest (weights : List ℕ) (place : ℕ) : Type 0 where
  pub some : 0 < slice_index weights place
  pub most : (other : ℕ) → slice_index weights other ≤ slice_index weights place
  pub first : (other : ℕ) → other < place → slice_index weights other < slice_index weights place

-- the number, from 1, of the first of the heaviest; none if all weigh 0
abbrev pub IsHeaviest : List ℕ → Option ℕ → Type 0
IsHeaviest weights None = (place : ℕ) → slice_index weights place ≡ 0
IsHeaviest weights (Some number) = (place : ℕ) × (number ≡ place + 1) × IsFirstHeaviest weights place

-- how many points a set has, how many observations are blamed if it moves, and the number of the heaviest of these
pub record IsBlame (survey : Survey) (mistaken : List Bool) (inside : List ℕ → Bool) (blame : Blame) : Type 0 where
  pub moves : blame.moves ≡ count_by inside (points_of survey)
  pub blames : blame.blames ≡ count_by (λ weight. nat_lt 0 weight) (blamed_weights survey mistaken inside)
  pub blamed : IsHeaviest (blamed_weights survey mistaken inside) blame.blamed
