-- The best heights of a survey, and the circulation that shows them.
use Rattle.std.specs.Prelude.{ℤ, List}
use Rattle.th_network.specs.Circulation.{Circulation, Shows}
use Rattle.th_network.specs.Heights.{LeastFine}
use Rattle.th_network.specs.Networks.{AreAtPoints, AreOfObservations, Survey, at_points_of}
use Rattle.th_circulation.specs.Extremes.{High, Low}

-- lowest and highest heights in point order, and a flow for each observation
pub record Best : Type 0 where
  pub low : List ℤ
  pub high : List ℤ
  pub flows : List ℤ

-- The heights are the lowest and the highest of all that cost least, one for each point and below 10^17 units in size. The flows are a
-- circulation that shows both, so no heights that keep the benchmarks cost less than either, in whole units or in any finer unit.
pub record IsBest (survey : Survey) (best : Best) : Type 0 where
  pub low : Low survey.observations survey.benchmarks survey.weights (at_points_of survey best.low)
  pub high : High survey.observations survey.benchmarks survey.weights (at_points_of survey best.high)
  pub low_at_points : AreAtPoints survey best.low
  pub high_at_points : AreAtPoints survey best.high
  pub circulation : Circulation survey.observations survey.benchmarks survey.weights best.flows
  pub shows_low : Shows survey.observations survey.weights best.flows (at_points_of survey best.low)
  pub shows_high : Shows survey.observations survey.weights best.flows (at_points_of survey best.high)
  pub each_flow : AreOfObservations survey best.flows
  pub low_least : LeastFine survey.observations survey.benchmarks survey.weights (at_points_of survey best.low)
  pub high_least : LeastFine survey.observations survey.benchmarks survey.weights (at_points_of survey best.high)
