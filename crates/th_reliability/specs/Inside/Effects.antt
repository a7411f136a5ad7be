use Rattle.std.specs.Prelude.{◌≡◌, ℕ, ◌+◌, ◌≤◌, ◌==◌, Bool, List, Some, if◌then◌else◌}
use Rattle.th_observations.specs.Observed.{Observed}
use Rattle.th_network.specs.Networks.{Survey}
use Rattle.th_reliability.specs.Blunders.{weight_in}
use Rattle.th_reliability.specs.Cuts.{IsFreeSet}
use Rattle.th_reliability.specs.SharedMistakes.{own, rest}
use Rattle.th_cuts.specs.Drains.{on_side}
use Rattle.th_reliability.specs.Blames.{IsBlame}
use Rattle.th_reliability.specs.Effects.{IsEffect}
use Rattle.th_reliability.specs.Inside.Sides.{names_beyond}
use Rattle.th_reliability.specs.Inside.Targets.{AreAtVertex}
use Rattle.th_reliability.specs.declared.blames.Blame.{Blame}
use Rattle.th_reliability.specs.declared.effects.Effect.{Effect}
use Rattle.th_reliability.specs.declared.effects.Flowed.{Flowed}
use Rattle.th_reliability.specs.declared.mistakes.SharedMistake.{SharedMistake}
use Rattle.th_reliability.specs.declared.mistakes.SharedMistake.TheVariants.{Drags, Unchecked}

-- twice a group's weight less its own cut and with the others', for the free set where that is least
pub record IsLeastDrained (survey : Survey) (group : Observed → Bool) (value : ℕ) : Type 0 where
  pub reached : (inside : List ℕ → Bool) × IsFreeSet survey.benchmarks inside × (value + own survey group inside ≡ rest survey group inside + (weight_in survey.observations survey.weights group + weight_in survey.observations survey.weights group))
  pub least : (inside : List ℕ → Bool) → IsFreeSet survey.benchmarks inside → value + own survey group inside ≤ rest survey group inside + (weight_in survey.observations survey.weights group + weight_in survey.observations survey.weights group)

-- what a mistake does if that is less than twice the weight
abbrev pub of_less : ℕ → ℕ → SharedMistake
of_less drained weight = if drained == weight then Unchecked else Drags

-- a mistake with this word that moves the points that a side separates from vertex 0
pub record Moves (survey : Survey) (mistaken : List Bool) (mistake : SharedMistake) (side : List Bool) (effect : Effect) : Type 0 where
  pub word : effect.mistake ≡ mistake
  pub blame : (blame : Blame) × (effect.blame ≡ Some blame) × IsBlame survey mistaken (names_beyond survey (on_side side)) blame

-- what flow finds of a mistake that a group shares, whose observations have an end at a vertex
pub record IsFlowed (survey : Survey) (group : Observed → Bool) (start : ℕ) (flowed : Flowed) : Type 0 where
  pub weight : flowed.weight ≡ weight_in survey.observations survey.weights group
  pub effect : AreAtVertex survey group start → IsEffect survey group flowed.effect
  pub drained : AreAtVertex survey group start → IsLeastDrained survey group flowed.drained
