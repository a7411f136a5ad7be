use Rattle.std.specs.Prelude.{◌≡◌, ◌≢◌, ℕ, ◌<◌, Bool, true, false, List, Option, Some, None, length, slice_get, slice_index_or}
use Rattle.th_observations.specs.Observed.{Observed}
use Rattle.th_network.specs.Networks.{Survey}
use Rattle.th_reliability.specs.Blunders.{weight_in}
use Rattle.th_reliability.specs.SharedMistakes.{own, rest, shared_mistake_of}
use Rattle.th_reliability.specs.declared.mistakes.SharedMistake.{SharedMistake}
use Rattle.th_reliability.specs.declared.mistakes.SharedMistake.TheVariants.{Shows}

-- the observation, at some place among these, is the only one of a group
pub record IsOnly (observations : List Observed) (group : Observed → Bool) (o : Observed) : Type 0 where
  pub place : ℕ
  pub at : slice_get observations place ≡ Some o
  pub is : group o ≡ true
  pub others : (other : ℕ) (d : Observed) → other ≢ place → other < length observations → group (slice_index_or observations other d) ≡ false

-- what a mistake does in a group of one observation with this control and weight: it shows if there is no control
abbrev pub single_mistake_of : Option ℕ → ℕ → SharedMistake
single_mistake_of None weight = Shows
single_mistake_of (Some control) weight = shared_mistake_of control weight

-- the whole group crosses the set, and nothing else does, by weight
pub record CrossesAlone (survey : Survey) (group : Observed → Bool) (inside : List ℕ → Bool) : Type 0 where
  pub whole : own survey group inside ≡ weight_in survey.observations survey.weights group
  pub none : rest survey group inside ≡ 0
