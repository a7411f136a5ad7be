-- The numbers of a survey that somebody read or typed, and what a change of one does.
use Rattle.std.specs.Prelude.{ℕ, ℤ, pos, negsuc, ◌+ℤ◌, ◌-ℤ◌, ◌*ℤ◌, List, map, if◌then◌else◌, bytes_eq}
use Rattle.th_observations.specs.Observed.{Observed}
use Rattle.th_network.specs.Networks.{Survey, surveyed}
use Rattle.th_reliability.specs.Sights.{in_sights}
use Rattle.th_changes.specs.declared.numbers.Number.{Number}
use Rattle.th_changes.specs.declared.numbers.Number.TheVariants.{Added, Subtracted, Benchmark}

-- how much an observed difference grows for each unit that the number grows
abbrev pub share : Number → Observed → ℤ
share (Added sights) o = if in_sights sights o then pos 1 else pos 0
share (Subtracted sights) o = if in_sights sights o then negsuc 0 else pos 0
share (Benchmark name) o = pos 0

-- how much the height in a benchmark's row grows for each unit that the number grows
abbrev pub lift : Number → List ℕ → ℤ
lift (Added sights) name = pos 0
lift (Subtracted sights) name = pos 0
lift (Benchmark benchmark) name = if bytes_eq benchmark name then pos 1 else pos 0

-- how much the difference without the benchmarks' heights grows for each unit that the number grows
abbrev pub touch : Number → Observed → ℤ
touch number o = share number o +ℤ lift number o.station -ℤ lift number o.target

-- how much each difference that the number touches grows for each unit that it grows, if it is no benchmark
abbrev pub sign : Number → ℤ
sign (Added sights) = pos 1
sign (Subtracted sights) = negsuc 0
sign (Benchmark name) = pos 0

-- the observation, after the number grew by so many units
abbrev pub changed_observation : Number → ℤ → Observed → Observed
changed_observation number x o = record o { difference = o.difference +ℤ x *ℤ share number o }

-- the row of a benchmark, after the number grew by so many units
abbrev pub changed_row : Number → ℤ → (List ℕ × ℤ) → List ℕ × ℤ
changed_row number x row = (row.0, row.1 +ℤ x *ℤ lift number row.0)

-- the survey, after the number grew by so many units
abbrev pub changed : Number → ℤ → Survey → Survey
changed number x survey = surveyed (map (changed_observation number x) survey.observations) (map (changed_row number x) survey.benchmarks) survey.weights
