-- How near the heights of a survey with one number set free are to a reading.
use Rattle.std.specs.Prelude.{◌≡◌, ℕ, true, ℤ, ◌+ℤ◌, ◌-ℤ◌, List, All, sum_by, if◌then◌else◌, bytes_eq, ◌||◌}
use Rattle.th_observations.specs.Observed.{Observed}
use Rattle.th_tables.specs.Rows.{weight_of}
use Rattle.th_network.specs.Networks.{Survey}
use Rattle.th_reliability.specs.Sights.{in_sights}
use Rattle.th_reliability.specs.declared.sights.Sights.{Sights}
use Rattle.th_changes.specs.declared.numbers.Number.{Number}
use Rattle.th_changes.specs.Freed.{IsFreed, Keeps, cost_of}
use Rattle.th_changes.specs.Numbers.{changed}

-- all of the sights are to this target
abbrev pub AreTo : Sights → List ℕ → List Observed → Type 0
AreTo sights target observations = All (λ o. in_sights sights o ≡ true → o.target ≡ target) observations

-- all of the sights are from this station
abbrev pub AreFrom : Sights → List ℕ → List Observed → Type 0
AreFrom sights station observations = All (λ o. in_sights sights o ≡ true → o.station ≡ station) observations

-- the change and the heights are among the best of those where the number is set free
pub record AreBestFreed (survey : Survey) (number : Number) (freed : ℕ) (x : ℤ) (heights : List ℕ → ℤ) : Type 0 where
  pub is_freed : IsFreed survey number freed
  pub kept : Keeps (changed number x survey) heights
  pub reached : cost_of (changed number x survey) heights ≡ freed

-- how high a point is above where the sights to a target end, if their number changes by so much
abbrev pub above_end : List ℕ → ℤ → (List ℕ → ℤ) → List ℕ → ℤ
above_end target x heights point = heights point -ℤ (heights target -ℤ x)

-- how high a point is above where the sights from a station begin, if their number changes by so much
abbrev pub above_begin : List ℕ → ℤ → (List ℕ → ℤ) → List ℕ → ℤ
above_begin station x heights point = heights point -ℤ (heights station +ℤ x)

-- the sum of the weights of the sights
abbrev pub weight_in : Survey → Sights → ℕ
weight_in survey sights = sum_by (λ o. if in_sights sights o then weight_of survey.weights o.station o.target else 0) survey.observations

-- the sum of the weights of the observations with an end at a point
abbrev pub weight_at : Survey → List ℕ → ℕ
weight_at survey point = sum_by (λ o. if bytes_eq point o.station || bytes_eq point o.target then weight_of survey.weights o.station o.target else 0) survey.observations
