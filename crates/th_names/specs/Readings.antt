-- Readings: a survey with one name, or one sign, read otherwise.
use Rattle.std.specs.Prelude.{◌≡◌, ℕ, ◌*◌, ◌≤◌, ℤ, pos, ◌-ℤ◌, ◌*ℤ◌, List, map, sum_by, if◌then◌else◌, bytes_eq, unsigned_abs}
use Rattle.th_observations.specs.Observed.{Observed}
use Rattle.th_tables.specs.Rows.{BenchmarkRows, weight_of}
use Rattle.th_network.specs.Heights.{IsHeights, residual}
use Rattle.th_network.specs.Networks.{Survey}
use Rattle.th_reliability.specs.Sights.{in_sights}
use Rattle.th_reliability.specs.declared.sights.Sights.{Sights}

-- how each observation is read, and the rows of the benchmarks' table
pub record Reading : Type 0 where
  pub observation : Observed → Observed
  pub rows : BenchmarkRows → BenchmarkRows

-- the observations are read otherwise, the rows as they are given
abbrev pub of_observations : (Observed → Observed) → Reading
of_observations read = record { observation = read; rows = λ rows. rows }

-- the rows are read otherwise, the observations as they are given
abbrev pub of_rows : ((List ℕ × ℤ) → List ℕ × ℤ) → Reading
of_rows read = record { observation = λ o. o; rows = map read }

-- the observation, to another point if it is one of the sights
abbrev pub aimed : Sights → List ℕ → Observed → Observed
aimed sights point o = record o { target = if in_sights sights o then point else o.target }

-- the observation, from another point if it is one of the sights
abbrev pub set_up : Sights → List ℕ → Observed → Observed
set_up sights point o = record o { station = if in_sights sights o then point else o.station }

-- the observation, with the other sign of its word 33 if it is one of the sights
abbrev pub with_other_sign : Sights → ℤ → Observed → Observed
with_other_sign sights word o = record o { difference = if in_sights sights o then o.difference -ℤ pos 2 *ℤ word else o.difference }

-- the row, of another point if it is that of the benchmark
abbrev pub renamed_row : List ℕ → List ℕ → (List ℕ × ℤ) → List ℕ × ℤ
renamed_row benchmark point row = (if bytes_eq benchmark row.0 then point else row.0, row.1)

-- what the survey costs at these heights if it is read so. Each observation keeps the weight that it has
abbrev pub read_cost : Survey → Reading → (List ℕ → ℤ) → ℕ
read_cost survey reading heights = sum_by (λ o. weight_of survey.weights o.station o.target * unsigned_abs (residual (reading.observation o) heights)) survey.observations

-- the heights keep each benchmark as it is read
abbrev pub KeepsRead : Survey → Reading → (List ℕ → ℤ) → Type 0
KeepsRead survey reading heights = IsHeights (reading.rows survey.benchmarks) heights

-- the least cost of the survey if it is read so, over all heights that then keep the benchmarks
pub record IsLeft (survey : Survey) (reading : Reading) (left : ℕ) : Type 0 where
  pub reached : (heights : List ℕ → ℤ) × KeepsRead survey reading heights × (read_cost survey reading heights ≡ left)
  pub least : (heights : List ℕ → ℤ) → KeepsRead survey reading heights → left ≤ read_cost survey reading heights
