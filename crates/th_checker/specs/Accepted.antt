-- What `yes` means, in terms of circulations.
use Rattle.std.specs.Prelude.{◌≡◌, ℤ, true, List, IfSome}
use Rattle.th_observations.specs.Observed.{Observed}
use Rattle.th_tables.specs.Rows.{BenchmarkRows, WeightRows}
use Rattle.th_network.specs.Circulation.{Circulation, Shows}
use Rattle.th_network.specs.Heights.{IsHeights, cost}
use Rattle.th_points.specs.Points.{points}
use Rattle.th_certificate.specs.Certified.{Certified, HeightRows, stated_height}
use Rattle.th_checker.specs.Verdicts.{names_are}

-- rows of exactly the points, whose heights keep the benchmarks and are shown by the flows
pub record AreShownRows (observations : List Observed) (benchmarks : BenchmarkRows) (weights : WeightRows) (flows : List ℤ) (rows : HeightRows) : Type 0 where
  pub names : names_are (points observations benchmarks) rows ≡ true
  pub kept : IsHeights benchmarks (stated_height rows)
  pub shows : Shows observations weights flows (stated_height rows)

-- the flows are a circulation that shows each map of heights, and the cost is that of the heights
pub record IsShown (observations : List Observed) (benchmarks : BenchmarkRows) (weights : WeightRows) (certificate : Certified) : Type 0 where
  pub circulation : Circulation observations benchmarks weights certificate.flows
  pub heights : AreShownRows observations benchmarks weights certificate.flows certificate.heights
  pub low : IfSome certificate.low (AreShownRows observations benchmarks weights certificate.flows)
  pub high : IfSome certificate.high (AreShownRows observations benchmarks weights certificate.flows)
  pub costs : certificate.cost ≡ cost observations weights (stated_height certificate.heights)
