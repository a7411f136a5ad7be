-- What a flow shows of each group with the same observations.
use Rattle.std.proofs.Common.{◌≡◌, ◌≢◌, ℕ, ◌+◌, ◌<◌, ◌≤◌, Bool, true, false, List, map, None, All, Contains, eqb, if◌then◌else◌, refl, sym, ap, subst}
use Rattle.th_observations.specs.Observed.{Observed}
use Rattle.th_network.specs.Networks.{Survey}
use Rattle.th_network.specs.Walks.{Anchored}
use Rattle.th_cuts.specs.Cuts.{Weighted}
use Rattle.th_cuts.specs.Drains.{IsLeastDrain, drain, on_side}
use Rattle.th_reliability.specs.Blames.{IsBlame}
use Rattle.th_reliability.specs.Blunders.{weight_in}
use Rattle.th_reliability.specs.Effects.{HasBlame, IsEffect}
use Rattle.th_reliability.specs.Inside.Effects.{IsLeastDrained, Moves, of_less}
use Rattle.th_reliability.specs.Inside.Graphs.{IsGraphOf}
use Rattle.th_reliability.specs.Inside.Sides.{names_beyond}
use Rattle.th_reliability.specs.Inside.Targets.{AreAtVertex, AreTargets}
use Rattle.th_reliability.specs.SharedMistakes.{IsLeastSet, IsSharedMistake}
use Rattle.th_reliability.specs.declared.effects.Effect.{Effect}
use Rattle.th_reliability.specs.declared.mistakes.SharedMistake.{SharedMistake}
use Rattle.th_reliability.specs.declared.mistakes.SharedMistake.TheVariants.{Drags, Shows, Ties, Unchecked}
use Rattle.th_reliability.proofs.BoundLemmas.{WeighSome}
use Rattle.th_reliability.proofs.EntryLemmas.{drained_least, just_set, just_word, less_set, less_word, more_least, shows}

-- none of these words is that of a mistake that shows
less_unshown : (value weight : ℕ) → of_less value weight ≢ Shows
less_unshown value weight = by (eqb value weight)
  where
    by : (b : Bool) → (if b then Unchecked else Drags) ≢ Shows
    by true is = cc
    by false is = cc

tie_unshown : Ties ≢ Shows
tie_unshown is = cc

module _ (survey : Survey) (group : Observed → Bool) (marks : List Bool) (marked : marks ≡ map group survey.observations) where
  -- a word and a least set make an effect
  pub moved_effect : (mistake : SharedMistake) (side : List Bool) (effect : Effect) → IsSharedMistake survey group mistake → mistake ≢ Shows → IsLeastSet survey group (names_beyond survey (on_side side)) → Moves survey marks mistake side effect → IsEffect survey group effect
  moved_effect mistake side effect word unshown least moves = record {
    word = subst (IsSharedMistake survey group) (sym moves.word) word;
    blame = subst (λ (m : SharedMistake). HasBlame survey group m effect.blame) (sym moves.word) (subst (HasBlame survey group mistake) (sym moves.blame.1) (
      unshown,
      (names_beyond survey (on_side side), least, subst (λ (own : List Bool). IsBlame survey own (names_beyond survey (on_side side)) moves.blame.0) marked moves.blame.2),
    ));
  }

  module _ (start weight : ℕ) (at : AreAtVertex survey group start) (rooms targets : List ℕ) (are : AreTargets survey group start rooms targets) (graph : Weighted) (is : IsGraphOf survey graph) (weighs : weight ≡ weight_in survey.observations survey.weights group) where
    pub less_effect : (value : ℕ) (side : List Bool) (effect : Effect) → IsLeastDrain graph.edges rooms start value side → value < weight + weight → Moves survey marks (of_less value weight) side effect → IsEffect survey group effect
    less_effect value side effect least less moves =
        moved_effect (of_less value weight) side effect
        (less_word survey group start at rooms targets are graph is (weight + weight) (ap (λ n. n + n) weighs) value side least less weight weighs)
        (less_unshown value weight)
        (less_set survey group start at rooms targets are graph is (weight + weight) (ap (λ n. n + n) weighs) value side least less)
        moves

    pub side_drained : (value : ℕ) (side : List Bool) → IsLeastDrain graph.edges rooms start value side → IsLeastDrained survey group value
    side_drained value side least = drained_least survey group start at rooms targets are graph is (weight + weight) (ap (λ n. n + n) weighs) value side least

    pub just_effect : (side : List Bool) (effect : Effect) → IsLeastDrain graph.edges rooms start (weight + weight) side → (target : ℕ) × Contains targets target × (on_side side target ≡ false) → Moves survey marks Ties side effect → IsEffect survey group effect
    just_effect side effect least off moves =
        moved_effect Ties side effect
        (just_word survey group start at rooms targets are graph is (weight + weight) (ap (λ n. n + n) weighs) (weight + weight) side least off.0 off.1 off.2 refl)
        tie_unshown
        (just_set survey group start at rooms targets are graph is (weight + weight) (ap (λ n. n + n) weighs) (weight + weight) side least off.0 off.1 off.2 refl)
        moves

    module _ (least : (inside : ℕ → Bool) → inside start ≡ true → weight + weight ≤ drain graph.edges rooms inside) where
      pub more_effect : (effect : Effect) → effect ≡ record { mistake = Shows; blame = None } → WeighSome survey → Anchored survey.observations survey.benchmarks → ((inside : ℕ → Bool) → inside start ≡ true → drain graph.edges rooms inside ≡ weight + weight → All (λ vertex. inside vertex ≡ true) targets) → IsEffect survey group effect
      more_effect effect shown weigh anchored all = subst (IsEffect survey group) (sym shown) (record {
        word = shows survey group start at rooms targets are graph is (weight + weight) (ap (λ n. n + n) weighs) least weigh anchored all;
        blame = refl;
      })

      pub more_drained : IsLeastDrained survey group (weight + weight)
      more_drained = more_least survey group start at rooms targets are graph is (weight + weight) (ap (λ n. n + n) weighs) least
