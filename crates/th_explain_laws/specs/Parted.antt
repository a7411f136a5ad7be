-- Surveys in which a number has no say: the sights of an entry from a point of their own, and a benchmark without its row.
use Rattle.std.specs.Prelude.{◌≡◌, ◌≢◌, ℕ, ℤ, true, false, List, Some, None, bytes_eq, if◌then◌else◌}
use Rattle.th_observations.specs.Observed.{Observed}
use Rattle.th_tables.specs.Rows.{BenchmarkRows, WeightRows, height_of, weight_of}
use Rattle.th_reliability.specs.Sights.{in_sights}
use Rattle.th_reliability.specs.declared.sights.Sights.{Sights}

-- the observation, from the point of their own if it is one of the sights
abbrev pub parted : Sights → List ℕ → Observed → Observed
parted sights own o = record o { station = if in_sights sights o then own else o.station }

-- the observation may be parted: the sights have one station, their new point is no end, and the new weights are those that the observation had
pub record IsParted (sights : Sights) (station own : List ℕ) (weights new : WeightRows) (o : Observed) : Type 0 where
  pub of_station : in_sights sights o ≡ true → o.station ≡ station
  pub no_station : own ≢ o.station
  pub no_target : own ≢ o.target
  pub weighed : weight_of new (parted sights own o).station o.target ≡ weight_of weights o.station o.target

-- fewer rows: the benchmark that has a height in the rows has none, and all others have theirs
pub record IsWithoutRow (rows : BenchmarkRows) (benchmark : List ℕ) (fewer : BenchmarkRows) : Type 0 where
  pub given : ℤ
  pub listed : height_of rows benchmark ≡ Some given
  pub gone : height_of fewer benchmark ≡ None
  pub others : (name : List ℕ) → bytes_eq benchmark name ≡ false → height_of fewer name ≡ height_of rows name
