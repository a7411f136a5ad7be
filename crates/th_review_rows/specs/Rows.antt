-- What the texts of a review state for each point, observation, entry and benchmark.
use Rattle.std.specs.Prelude.{ℕ, ℤ, ◌-ℤ◌, ◌==◌, Bool, false, List, Option, None, Some, map, option_map}
use Rattle.std.specs.List.{enumerate_from, zip}
use Rattle.th_observations.specs.Observed.{Observed}
use Rattle.th_tables.specs.Rows.{weight_of}
use Rattle.th_points.specs.Places.{place_of}
use Rattle.th_network.specs.Heights.{residual}
use Rattle.th_network.specs.Networks.{Survey, points_of}
use Rattle.th_entries.specs.declared.entries.Entry.{Entry}
use Rattle.th_reliability.specs.Blunders.{weight_in}
use Rattle.th_reliability.specs.Mistakes.{mistake_of}
use Rattle.th_reliability.specs.Sights.{in_sights}
use Rattle.th_reliability.specs.declared.benchmarks.BenchmarkEffect.{BenchmarkEffect}
use Rattle.th_reliability.specs.declared.blames.Blame.{Blame}
use Rattle.th_reliability.specs.declared.effects.Effect.{Effect}
use Rattle.th_review_rows.specs.Entries.{sights_of}
use Rattle.th_review_rows.specs.declared.rows.PointRow.{PointRow}
use Rattle.th_review_rows.specs.declared.rows.End.{End}
use Rattle.th_review_rows.specs.declared.rows.ObservationRow.{ObservationRow}
use Rattle.th_review_rows.specs.declared.rows.EntryRow.{EntryRow}
use Rattle.th_review_rows.specs.declared.rows.BenchmarkRow.{BenchmarkRow}

-- whether one observation alone holds a point: the point's strength is 1 if all weights are 1
abbrev pub is_held_by_one : Option ℕ → Bool
is_held_by_one None = false
is_held_by_one (Some unit_strength) = unit_strength == 1

-- the row of a point, given its name, its lowest and highest best height, its strength, and its strength if all weights are 1
abbrev pub point_row_of : List ℕ → ℤ → ℤ → Option ℕ → Option ℕ → PointRow
point_row_of name low high strength unit_strength =
    record { name = name; low = low; high = high; spread = high -ℤ low; strength = strength; alone = is_held_by_one unit_strength }

-- the row of a point, given maps of the lowest and highest best heights
abbrev pub point_row : (List ℕ → ℤ) → (List ℕ → ℤ) → List ℕ × (Option ℕ × Option ℕ) → PointRow
point_row low high (name, (strength, unit_strength)) = point_row_of name (low name) (high name) strength unit_strength

-- the rows of the points, in point order, as are the strengths
abbrev pub point_rows : Survey → (List ℕ → ℤ) → (List ℕ → ℤ) → List (Option ℕ) → List (Option ℕ) → List PointRow
point_rows survey low high strengths unit_strengths = map (point_row low high) (zip (points_of survey) (zip strengths unit_strengths))

-- an end of an observation: its place among the points, and its lowest best height
abbrev pub end_of : Survey → (List ℕ → ℤ) → List ℕ → End
end_of survey low name = record { place = place_of (points_of survey) name; low = low name }

-- the station and the target of an observation
abbrev pub ends_of : Survey → (List ℕ → ℤ) → Observed → End × End
ends_of survey low o = (end_of survey low o.station, end_of survey low o.target)

-- the row of an observation, given its number, weight, residual and control, what a mistake in it would move, and its ends
abbrev pub observation_row_of : ℕ → Observed → ℕ → ℤ → Option ℕ → Option Blame → End × End → ObservationRow
observation_row_of number o weight residual control blame (from, to) =
    record { number = number; observation = o; weight = weight; residual = residual; control = control; mistake = mistake_of control weight; blame = blame; from = from; to = to }

-- the row of an observation, given a map of the lowest best heights
abbrev pub observation_row : Survey → (List ℕ → ℤ) → ℕ × (Observed × (Option ℕ × Option Blame)) → ObservationRow
observation_row survey low (number, (o, (control, blame))) =
    observation_row_of number o (weight_of survey.weights o.station o.target) (residual o low) control blame (ends_of survey low o)

-- the rows of the observations, numbered from 1, with their controls and what a mistake in each would move, which are in the same order
abbrev pub observation_rows : Survey → (List ℕ → ℤ) → List (Option ℕ) → List (Option Blame) → List ObservationRow
observation_rows survey low controls blames = map (observation_row survey low) (enumerate_from 1 (zip survey.observations (zip controls blames)))

-- the weight of an entry: the sum of the weights of its sights
abbrev pub entry_weight : Survey → Entry → ℕ
entry_weight survey entry = weight_in survey.observations survey.weights (in_sights (sights_of entry))

-- the row of an entry, given what a mistake in it would do
abbrev pub entry_row : Survey → Entry × Effect → EntryRow
entry_row survey (entry, effect) = record { entry = entry; weight = entry_weight survey entry; mistake = effect.mistake; blame = effect.blame }

-- the rows of entries, in their order, as are the effects
abbrev pub entry_rows : Survey → List Entry → List Effect → List EntryRow
entry_rows survey entries effects = map (entry_row survey) (zip entries effects)

-- what a wrong height of a benchmark would move and what would be blamed for it; none if it shows, or does nothing
abbrev pub blame_in : Option Effect → Option Blame
blame_in None = None
blame_in (Some effect) = effect.blame

-- the row of a benchmark, given its name and height in the table, and what a wrong height would do
abbrev pub benchmark_row : (List ℕ × ℤ) × BenchmarkEffect → BenchmarkRow
benchmark_row (row, found) = record {
  name = row.0;
  height = row.1;
  sights = found.sights;
  weight = found.weight;
  strength = found.strength;
  mistake = option_map (λ effect. effect.mistake) found.effect;
  blame = blame_in found.effect;
}

-- the rows of the benchmarks, in the order of their table, as are the effects
abbrev pub benchmark_rows : Survey → List BenchmarkEffect → List BenchmarkRow
benchmark_rows survey effects = map benchmark_row (zip survey.benchmarks effects)
