use Rattle.std.specs.Prelude.{List, ℕ, ℤ}
use Rattle.th_network.specs.Circulation.{Circulation, Shows}
use Rattle.th_network.specs.Heights.{IsHeights}
use Rattle.th_network.specs.Networks.{AreInRange, Survey}

-- heights below 10^17 units in size at the points, which keep the benchmarks of a survey, and which a circulation shows
pub record Shown (survey : Survey) (heights : List ℕ → ℤ) (flows : List ℤ) : Type 0 where
  pub in_range : AreInRange survey heights
  pub kept : IsHeights survey.benchmarks heights
  pub circulation : Circulation survey.observations survey.benchmarks survey.weights flows
  pub shows : Shows survey.observations survey.weights flows heights
