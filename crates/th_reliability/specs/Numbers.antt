use Rattle.std.specs.Prelude.{◌≡◌, ℕ, List, Option, Some, None, IsSome, length, slice_get, slice_index_or}
use Rattle.th_observations.specs.Observed.{Observed}
use Rattle.th_tables.specs.Rows.{height_of}
use Rattle.th_network.specs.Networks.{Survey, points_of}
use Rattle.th_reliability.specs.Cuts.{IsControl, IsStrength}

-- the strength of a point; none if it is a benchmark
abbrev pub HasStrength : Survey → List ℕ → Option ℕ → Type 0
HasStrength survey name None = IsSome (height_of survey.benchmarks name)
HasStrength survey name (Some strength) = IsStrength survey.observations survey.benchmarks survey.weights name strength

-- the control of an observation; none if both ends are benchmarks
abbrev pub HasControl : Survey → Observed → Option ℕ → Type 0
HasControl survey o None = IsSome (height_of survey.benchmarks o.station) × IsSome (height_of survey.benchmarks o.target)
HasControl survey o (Some control) = IsControl survey.observations survey.benchmarks survey.weights o control

-- the strength of each point, in point order
pub record AreStrengths (survey : Survey) (strengths : List (Option ℕ)) : Type 0 where
  pub each : length strengths ≡ length (points_of survey)
  pub are : (k : ℕ) (name : List ℕ) (d : Option ℕ) → slice_get (points_of survey) k ≡ Some name → HasStrength survey name (slice_index_or strengths k d)

-- the control of each observation, in order
pub record AreControls (survey : Survey) (controls : List (Option ℕ)) : Type 0 where
  pub each : length controls ≡ length survey.observations
  pub are : (k : ℕ) (o : Observed) (d : Option ℕ) → slice_get survey.observations k ≡ Some o → HasControl survey o (slice_index_or controls k d)
