use Rattle.std.specs.Prelude.{◌≡◌, ◌<◌, ◌≤◌, ℕ, ℤ, pos, List, Option, All, length, map, unsigned_abs, unwrap_or}
use Rattle.th_observations.specs.Observed.{Observed, IsBetweenPoints}
use Rattle.th_tables.specs.Limits.{max_weight}
use Rattle.th_tables.specs.Rows.{BenchmarkRows, WeightRows, height_of, weight_of}
pub use Rattle.th_tables.specs.Rows.{IsWeight}
use Rattle.th_points.specs.Points.{points}
use Rattle.th_units.specs.Limits.{max_len}
use Rattle.th_points.specs.Ends.{ends_of}
use Rattle.th_network.specs.Faults.{IsNetwork}
use Rattle.th_network.specs.Heights.{heights_at}
use Rattle.th_network.specs.Vertices.{vertex_count, vertex_of}
use Rattle.th_network.specs.Limits.{height_limit}
use Rattle.th_network.specs.Links.{largest_link_difference, link_of}
use Rattle.th_network.specs.declared.links.Link.{Link}

-- the inputs of a network: observations, and the rows of the tables of benchmarks and of weights
pub record Survey : Type 0 where
  pub observations : List Observed
  pub benchmarks : BenchmarkRows
  pub weights : WeightRows

-- the survey of these observations and of the rows of these tables
abbrev pub surveyed : List Observed → BenchmarkRows → WeightRows → Survey
surveyed observations benchmarks weights = record { observations = observations; benchmarks = benchmarks; weights = weights }

-- the points between which an observation is
abbrev pub points_between : Observed → List ℕ × List ℕ
points_between o = (o.station, o.target)

-- other observations go from the same stations to the same targets, one by one
abbrev pub HaveSameEnds : List Observed → List Observed → Type 0
HaveSameEnds observations others = map points_between others ≡ map points_between observations

-- the points of a survey, in the order of their first occurrence
abbrev pub points_of : Survey → List (List ℕ)
points_of survey = points survey.observations survey.benchmarks

-- for each point its height, if it is a benchmark
abbrev pub heights_of : Survey → List (Option ℤ)
heights_of survey = map (height_of survey.benchmarks) (points_of survey)

-- for each observation its weight
abbrev pub weights_of : Survey → List ℕ
weights_of survey = map (λ o. weight_of survey.weights o.station o.target) survey.observations

-- how many vertices a survey has
abbrev pub vertices_of : Survey → ℕ
vertices_of survey = vertex_count survey.observations survey.benchmarks

-- for each point its vertex
abbrev pub point_vertices_of : Survey → List ℕ
point_vertices_of survey = map (vertex_of survey.observations survey.benchmarks) (points_of survey)

-- for each observation its link
abbrev pub arcs_of : Survey → List Link
arcs_of survey = map (link_of survey.observations survey.benchmarks) survey.observations

-- a height for each point of a survey, in point order, below 10^17 units in size
pub record AreAtPoints (survey : Survey) (heights : List ℤ) : Type 0 where
  pub each : length heights ≡ length (points_of survey)
  pub in_range : All (λ height. unsigned_abs height < height_limit) heights

-- the map of heights that are listed in point order
abbrev pub at_points_of : Survey → List ℤ → List ℕ → ℤ
at_points_of survey heights = heights_at (points_of survey) heights

-- a flow for each observation of a survey, in their order, at most the greatest weight in size
pub record AreOfObservations (survey : Survey) (flows : List ℤ) : Type 0 where
  pub each : length flows ≡ length survey.observations
  pub in_range : All (λ flow. unsigned_abs flow ≤ max_weight) flows

-- a map of heights that are below 10^17 units in size at the points of a survey
abbrev pub AreInRange : Survey → (List ℕ → ℤ) → Type 0
AreInRange survey heights = All (λ name. unsigned_abs (heights name) < height_limit) (points_of survey)

-- A survey makes a network: these are its points, the heights of those that are benchmarks, the places of the
-- ends among the points, the weights of the observations, the vertices of the points and how many there are, and the arcs.
pub record IsBuilt (survey : Survey) (names : List (List ℕ)) (heights : List (Option ℤ)) (ends : List (ℕ × ℕ)) (weights of_points : List ℕ) (count : ℕ) (arcs : List Link) : Type 0 where
  pub network : IsNetwork survey.observations survey.benchmarks
  pub between : All IsBetweenPoints survey.observations
  pub all_points : names ≡ points_of survey
  pub fixed : heights ≡ heights_of survey
  pub low : All (λ height. unsigned_abs (unwrap_or height (pos 0)) ≤ max_len) heights
  pub placed : ends ≡ ends_of survey.observations survey.benchmarks
  pub weighed : weights ≡ weights_of survey
  pub light : All IsWeight weights
  pub numbered : of_points ≡ point_vertices_of survey
  pub vertices : count ≡ vertices_of survey
  pub links : arcs ≡ arcs_of survey
  pub in_range : All (λ arc. unsigned_abs arc.diff ≤ largest_link_difference) arcs
