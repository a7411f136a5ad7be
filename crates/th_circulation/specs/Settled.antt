-- What settling a network results in.
use Rattle.std.specs.Prelude.{ℕ, ℤ, List}
use Rattle.th_network.specs.Circulation.{Circulation, Shows}
use Rattle.th_network.specs.Heights.{IsHeights}
use Rattle.th_network.specs.Networks.{AreAtPoints, AreOfObservations, Survey, at_points_of}
use Rattle.th_circulation.specs.Extremes.{High, Low}

-- Heights keep the benchmarks, and flows are a circulation that shows them, so the heights cost least.
pub record AreShown (survey : Survey) (flows : List ℤ) (heights : List ℕ → ℤ) : Type 0 where
  pub kept : IsHeights survey.benchmarks heights
  pub circulation : Circulation survey.observations survey.benchmarks survey.weights flows
  pub shows : Shows survey.observations survey.weights flows heights

-- Heights and flows are shown as above, listed with one height for each point and one flow for each observation, and in their ranges.
pub record IsSettled (survey : Survey) (heights flows : List ℤ) : Type 0 where
  pub shown : AreShown survey flows (at_points_of survey heights)
  pub at_points : AreAtPoints survey heights
  pub of_observations : AreOfObservations survey flows

-- The lowest and the highest best heights, one of each for each point and in their ranges, and flows that show both.
pub record AreSpans (survey : Survey) (flows low high : List ℤ) : Type 0 where
  pub is_low : Low survey.observations survey.benchmarks survey.weights (at_points_of survey low)
  pub is_high : High survey.observations survey.benchmarks survey.weights (at_points_of survey high)
  pub shows_low : Shows survey.observations survey.weights flows (at_points_of survey low)
  pub shows_high : Shows survey.observations survey.weights flows (at_points_of survey high)
  pub low_at_points : AreAtPoints survey low
  pub high_at_points : AreAtPoints survey high
