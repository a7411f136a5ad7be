-- Flows of a survey that are sent other ways, and what they then show.
use Rattle.std.specs.Prelude.{◌≡◌, ℕ, ◌*◌, ◌<◌, ◌≤◌, ℤ, pos, ◌+ℤ◌, ◌-ℤ◌, ◌*ℤ◌, ◌≤ℤ◌, List, length, slice_index, slice_index_or, true, unsigned_abs, zip}
use Rattle.th_observations.specs.Observed.{Observed}
use Rattle.th_network.specs.Circulation.{total_by}
use Rattle.th_network.specs.Heights.{residual}
use Rattle.th_network.specs.Links.{base, link_difference}
use Rattle.th_network.specs.Networks.{AreOfObservations, Survey, weights_of}
use Rattle.th_network.specs.Vertices.{vertex_of}
use Rattle.th_tables.specs.Limits.{max_weight}
use Rattle.th_tables.specs.Rows.{weight_of}
use Rattle.th_changes.specs.declared.numbers.Number.{Number}
use Rattle.th_changes.specs.declared.runs.Run.{Run}
use Rattle.th_changes.specs.Flows.{value}
use Rattle.th_changes.specs.Freed.{Keeps, cost_of}
use Rattle.th_changes.specs.Tilted.{tilted_observation}
use Rattle.th_changes.specs.Numbers.{changed, sign, touch}

-- the sum of the flows times f
abbrev pub summed : (Observed → ℤ) → List Observed → List ℤ → ℤ
summed f observations flows = total_by (λ pair. pair.1 *ℤ f pair.0) (zip observations flows)

-- how much a potential of the vertices rises along an observation
abbrev pub rise : Survey → (ℕ → ℤ) → Observed → ℤ
rise survey potential o = potential (vertex_of survey.observations survey.benchmarks o.target) -ℤ potential (vertex_of survey.observations survey.benchmarks o.station)

-- Flows whose value is less than the cost by what was lost. All of them are in balance, but that an amount goes from one
-- vertex to another: along any potential of the vertices they carry as much as that amount.
pub record IsRerouted (survey : Survey) (cost : ℕ) (flows : List ℤ) (lost : ℤ) (start at amount : ℕ) : Type 0 where
  pub each_flow : AreOfObservations survey flows
  pub bounded : (k : ℕ) → k < length flows → unsigned_abs (slice_index_or flows k (pos 0)) ≤ slice_index (weights_of survey) k
  pub valued : value survey flows +ℤ lost ≡ pos cost
  pub carried : (potential : ℕ → ℤ) → summed (rise survey potential) survey.observations flows ≡ pos amount *ℤ (potential at -ℤ potential start)

-- the flow of the observation at a place, what is then lost, and the vertex where the walk then is
pub record IsNext (survey : Survey) (flows : List ℤ) (lost : ℤ) (at amount place : ℕ) (flow lost_then : ℤ) (at_then : ℕ) : Type 0 where
  pub within : place < length survey.observations
  pub bounded : unsigned_abs flow ≤ slice_index (weights_of survey) place
  pub light : unsigned_abs flow ≤ max_weight
  pub lost_less : (o : Observed) → slice_index_or survey.observations place o ≡ o → lost_then ≡ lost -ℤ (flow -ℤ slice_index_or flows place (pos 0)) *ℤ link_difference survey.benchmarks o
  pub carried : (o : Observed) → slice_index_or survey.observations place o ≡ o → (potential : ℕ → ℤ) → (flow -ℤ slice_index_or flows place (pos 0)) *ℤ rise survey potential o ≡ pos amount *ℤ (potential at_then -ℤ potential at)

-- A run contains all observations that a number touches; it goes from its start up to its end, without that. If it is
-- whole, the number touches all that are there alike.
pub record HoldsNumber (observations : List Observed) (number : Number) (run : Run) : Type 0 where
  pub ordered : run.start ≤ run.end
  pub within : run.end ≤ length observations
  pub below : (k : ℕ) (d : Observed) → k < run.start → touch number (slice_index_or observations k d) ≡ pos 0
  pub above : (k : ℕ) (d : Observed) → run.end ≤ k → k < length observations → touch number (slice_index_or observations k d) ≡ pos 0
  pub alike : run.is_whole ≡ true → (k : ℕ) (d : Observed) → run.start ≤ k → k < run.end → touch number (slice_index_or observations k d) ≡ sign number

-- heights that are above those of the benchmarks by what these of the vertices are above vertex 0
abbrev pub heights_over : Survey → List ℤ → List ℕ → ℤ
heights_over survey levels name = base survey.benchmarks name +ℤ (slice_index_or levels (vertex_of survey.observations survey.benchmarks name) (pos 0) -ℤ slice_index_or levels 0 (pos 0))

-- what an observation costs at these heights, if a number grows by so much
abbrev pub priced : Survey → Number → ℤ → List ℤ → Observed → ℕ
priced survey number x levels o = weight_of survey.weights o.station o.target * unsigned_abs (residual (tilted_observation number x o) (heights_over survey levels))
