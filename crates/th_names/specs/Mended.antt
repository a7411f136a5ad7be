-- A wrong survey that a reading makes right.
use Rattle.std.specs.Prelude.{◌≡◌, ◌≤◌, All, map}
use Rattle.th_tables.specs.Rows.{WeightRows, weight_of}
use Rattle.th_network.specs.Networks.{Survey, surveyed}
use Rattle.th_names.specs.Readings.{Reading}

-- the survey, read so; its weights stay in their table
abbrev pub read : Reading → Survey → Survey
read reading survey = surveyed (map reading.observation survey.observations) (reading.rows survey.benchmarks) survey.weights

-- the survey, read so, with these rows of weights
abbrev pub as_read : Survey → Reading → WeightRows → Survey
as_read survey reading weights = surveyed (map reading.observation survey.observations) (reading.rows survey.benchmarks) weights

-- read so, the wrong survey is the right one
pub record IsMended (right wrong : Survey) (reading : Reading) : Type 0 where
  pub observations : map reading.observation wrong.observations ≡ right.observations
  pub rows : reading.rows wrong.benchmarks ≡ right.benchmarks

-- by these rows of weights each observation weighs, as it is read, what it weighed as it is given
abbrev pub KeepsWeights : Survey → Reading → WeightRows → Type 0
KeepsWeights survey reading weights = All (λ o. weight_of weights (reading.observation o).station (reading.observation o).target ≡ weight_of survey.weights o.station o.target) survey.observations

-- by these rows of weights no observation weighs less, as it is read, than it weighs as it is given
abbrev pub WeighsNoLess : Survey → Reading → WeightRows → Type 0
WeighsNoLess survey reading weights = All (λ o. weight_of survey.weights o.station o.target ≤ weight_of weights (reading.observation o).station (reading.observation o).target) survey.observations
