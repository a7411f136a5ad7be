-- What a mistake does, with what it moves and what is blamed for it.
use Rattle.std.specs.Prelude.{◌≡◌, ◌≢◌, ℕ, ◌+◌, ◌<◌, ◌≤◌, ◌==◌, Bool, true, List, Option, Some, None, length, map, slice_get, slice_index_or}
use Rattle.std.specs.List.{range_with_len}
use Rattle.th_observations.specs.Observed.{Observed}
use Rattle.th_tables.specs.Rows.{weight_of}
use Rattle.th_network.specs.Networks.{Survey}
use Rattle.th_reliability.specs.Blames.{IsBlame}
use Rattle.th_reliability.specs.Cuts.{IsFreeSet, crosses, cut}
use Rattle.th_reliability.specs.SharedMistakes.{IsLeastSet, IsSharedMistake}
use Rattle.th_reliability.specs.declared.blames.Blame.{Blame}
use Rattle.th_reliability.specs.declared.effects.Effect.{Effect}
use Rattle.th_reliability.specs.declared.mistakes.SharedMistake.{SharedMistake}
use Rattle.th_reliability.specs.declared.mistakes.SharedMistake.TheVariants.{Shows}

-- a mistake that a group shares moves nothing if it shows, and else one of the least sets
abbrev pub HasBlame : Survey → (Observed → Bool) → SharedMistake → Option Blame → Type 0
HasBlame survey group mistake None = mistake ≡ Shows
HasBlame survey group mistake (Some blame) =
    (mistake ≢ Shows) × ((inside : List ℕ → Bool) × IsLeastSet survey group inside × IsBlame survey (map group survey.observations) inside blame)

-- what a mistake that a group shares does
pub record IsEffect (survey : Survey) (group : Observed → Bool) (effect : Effect) : Type 0 where
  pub word : IsSharedMistake survey group effect.mistake
  pub blame : HasBlame survey group effect.mistake effect.blame

-- which of the observations is the one at a place
abbrev pub only_at : Survey → ℕ → List Bool
only_at survey place = map (λ k. k == place) (range_with_len 0 (length survey.observations))

-- A mistake in the observation at a place, which has this control, moves nothing if it shows: if there is no control, or one above its weight.
-- Otherwise it moves one of the sets that its control is the cut of.
abbrev pub HasOwnBlame : Survey → ℕ → Observed → Option ℕ → Option Blame → Type 0
HasOwnBlame survey place o None None = Unit {0}
HasOwnBlame survey place o None (Some blame) = ⊥
HasOwnBlame survey place o (Some control) None = weight_of survey.weights o.station o.target < control
HasOwnBlame survey place o (Some control) (Some blame) =
    (control ≤ weight_of survey.weights o.station o.target)
    × ((inside : List ℕ → Bool) × IsFreeSet survey.benchmarks inside × (crosses inside o ≡ true)
    × (cut survey.observations survey.weights inside ≡ control + weight_of survey.weights o.station o.target)
    × IsBlame survey (only_at survey place) inside blame)

-- what a mistake in each observation moves, in order; the controls are in the same order
pub record AreBlames (survey : Survey) (controls : List (Option ℕ)) (blames : List (Option Blame)) : Type 0 where
  pub each : length blames ≡ length survey.observations
  pub are : (k : ℕ) (o : Observed) (d : Option ℕ) (e : Option Blame) → slice_get survey.observations k ≡ Some o → HasOwnBlame survey k o (slice_index_or controls k d) (slice_index_or blames k e)
