-- How high points of a survey are above one of them, over all best heights.
use Rattle.std.specs.Prelude.{◌≡◌, ℕ, ℤ, pos, ◌-ℤ◌, ◌≤ℤ◌, List, Some, length, slice_get, slice_index_or}
use Rattle.th_network.specs.Heights.{Least}
use Rattle.th_network.specs.Networks.{Survey, points_of}

-- at some heights that cost least, one point is so high above another one
abbrev pub RisesBy : Survey → List ℕ → List ℕ → ℤ → Type 0
RisesBy survey from to rise = (heights : List ℕ → ℤ) × Least survey.observations survey.benchmarks survey.weights heights × (heights to -ℤ heights from ≡ rise)

-- the least and the greatest height of one point above another one, over all heights that cost least
pub record AreExtremes (survey : Survey) (from to : List ℕ) (low high : ℤ) : Type 0 where
  pub low_reached : RisesBy survey from to low
  pub high_reached : RisesBy survey from to high
  pub least : (rise : ℤ) → RisesBy survey from to rise → low ≤ℤ rise
  pub greatest : (rise : ℤ) → RisesBy survey from to rise → rise ≤ℤ high

-- for each point of a survey, in point order, its least and its greatest height above one of them
pub record AreRises (survey : Survey) (from : List ℕ) (low high : List ℤ) : Type 0 where
  pub each_low : length low ≡ length (points_of survey)
  pub each_high : length high ≡ length (points_of survey)
  pub extremes : (k : ℕ) (to : List ℕ) → slice_get (points_of survey) k ≡ Some to → AreExtremes survey from to (slice_index_or low k (pos 0)) (slice_index_or high k (pos 0))
