-- What two spans and a circulation that shows them answer.
use Rattle.std.proofs.Common.{ℕ, ℤ, List}
use Rattle.th_observations.specs.Observed.{Observed}
use Rattle.th_network.specs.Circulation.{Circulation, Shows}
use Rattle.th_network.specs.Heights.{IsHeights, LeastFine}
use Rattle.th_network.specs.Networks.{Survey, at_points_of}
use Rattle.th_tables.specs.Rows.{BenchmarkRows, WeightRows}
use Rattle.th_circulation.specs.Best.{IsBest}
use Rattle.th_circulation.specs.Settled.{AreSpans, IsSettled}

-- heights that a circulation shows are least in every unit
abbrev IsShownLeast : Type 0
IsShownLeast = (observations : List Observed) (benchmarks : BenchmarkRows) (weights : WeightRows) (heights : List ℕ → ℤ) (flows : List ℤ)
    → IsHeights benchmarks heights → Circulation observations benchmarks weights flows → Shows observations weights flows heights
    → LeastFine observations benchmarks weights heights

-- lowest and highest heights are best where one circulation shows both
pub are_best : (survey : Survey) (heights low high flows : List ℤ) → IsShownLeast → IsSettled survey heights flows → AreSpans survey flows low high
    → IsBest survey (record { low = low; high = high; flows = flows })
are_best survey heights low high flows least settled spans =
    let circulation = settled.shown.circulation in
    record {
      low = spans.is_low;
      high = spans.is_high;
      low_at_points = spans.low_at_points;
      high_at_points = spans.high_at_points;
      circulation = circulation;
      shows_low = spans.shows_low;
      shows_high = spans.shows_high;
      each_flow = settled.of_observations;
      low_least = least survey.observations survey.benchmarks survey.weights (at_points_of survey low) flows spans.is_low.best.kept circulation spans.shows_low;
      high_least = least survey.observations survey.benchmarks survey.weights (at_points_of survey high) flows spans.is_high.best.kept circulation spans.shows_high;
    }
