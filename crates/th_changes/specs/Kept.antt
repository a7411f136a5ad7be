-- Circulations that are kept: in balance at each vertex, within the weights, and by how much their value is less than the cost.
use Rattle.std.specs.Prelude.{◌≡◌, ℕ, ◌<◌, ◌≤◌, ℤ, pos, ◌+ℤ◌, List, length, slice_index, slice_index_or, unsigned_abs}
use Rattle.th_network.specs.Networks.{AreOfObservations, Survey, weights_of}
use Rattle.th_changes.specs.Flows.{value}
use Rattle.th_changes.specs.Rerouted.{rise, summed}

-- along any potential of the vertices the flows carry nothing: they are in balance at each vertex
abbrev pub AreClosed : Survey → List ℤ → Type 0
AreClosed survey flows = (potential : ℕ → ℤ) → summed (rise survey potential) survey.observations flows ≡ pos 0

-- Flows in balance whose value is less than the cost by what is lost, at most the weights in size.
pub record IsKept (survey : Survey) (cost : ℕ) (flows : List ℤ) (lost : ℤ) : Type 0 where
  pub each_flow : AreOfObservations survey flows
  pub bounded : (k : ℕ) → k < length flows → unsigned_abs (slice_index_or flows k (pos 0)) ≤ slice_index (weights_of survey) k
  pub valued : value survey flows +ℤ lost ≡ pos cost
  pub closed : AreClosed survey flows
