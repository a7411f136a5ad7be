use Rattle.std.proofs.Common.{◌≡◌, ◌+◌, ℕ, Bool, List, subst, sym}
use Rattle.th_observations.specs.Observed.{Observed}
use Rattle.th_network.specs.Networks.{Survey}
use Rattle.th_cuts.specs.declared.drains.Drained.{Drained}
use Rattle.th_cuts.specs.Cuts.{Weighted}
use Rattle.th_cuts.specs.Drains.{IsDrained}
use Rattle.th_reliability.specs.Inside.Effects.{Moves}
use Rattle.th_reliability.specs.Inside.Targets.{AreTargets}
use Rattle.th_reliability.specs.declared.mistakes.SharedMistake.{SharedMistake}
use Rattle.th_reliability.specs.declared.mistakes.SharedMistake.TheVariants.{Ties}
use Rattle.th_reliability.proofs.EffectLemmas.{just_effect, less_effect, more_drained, more_effect, side_drained}
use Rattle.th_reliability.proofs.effects.effect_at.Goals as goal

found_targets : (survey : Survey) (group : Observed → Bool) (start : ℕ) (rooms rooms2 targets targets2 : List ℕ) → rooms2 ≡ rooms → targets2 ≡ targets → AreTargets survey group start rooms targets → AreTargets survey group start rooms2 targets2
found_targets survey group start rooms rooms2 targets targets2 a b are =
    subst (λ (rs : List ℕ). AreTargets survey group start rs targets2) (sym a) (subst (λ (ts : List ℕ). AreTargets survey group start rooms ts) (sym b) are)

pub returns-in-Less : goal.returns-in-Less
returns-in-Less c group same =
    let survey = c.args.ground.now.network.now in
    let start = c.args.start in
    let weight = c.in_ok-found.found.weight in
    let rooms = c.deref.result.now in
    let targets = c.deref-2.result.now in
    let graph : Weighted = record { vertices = c.args.ground.now.graph.vertices; edges = c.args.ground.now.graph.edges.items } in
    let is = c.args.ground.now.graphed in
    let are : AreTargets survey group start rooms targets = found_targets survey group start c.in_ok-found.found.rooms.items rooms c.in_ok-found.found.targets.items targets c.deref.ensures.value c.deref-2.ensures.value (c.in_ok-found.ensures.targets group same) in
    let weighs = c.in_ok-found.ensures.weight group same in
    let found = subst (λ (d : Drained). IsDrained graph.edges rooms start (weight + weight) targets d) c.in-Less.is c.in_ok-drained.ensures in
    let effect = c.effect_of-effect.result in
    let sided = subst (λ (side : List Bool). Moves survey c.args.mistaken.now c.of_less-mistake.result side effect) c.deref-in-Less.ensures.value c.effect_of-effect.ensures in
    let moves = subst (λ (mistake : SharedMistake). Moves survey c.args.mistaken.now mistake c.in-Less.side.items effect) c.of_less-mistake.ensures sided in
    record {
      weight = weighs;
      effect = λ at. less_effect survey group c.args.mistaken.now same start weight at rooms targets are graph is weighs c.in-Less.drained c.in-Less.side.items effect found.0 found.1 moves;
      drained = λ at. side_drained survey group c.args.mistaken.now same start weight at rooms targets are graph is weighs c.in-Less.drained c.in-Less.side.items found.0;
    }

pub returns-in-Just : goal.returns-in-Just
returns-in-Just c group same =
    let survey = c.args.ground.now.network.now in
    let start = c.args.start in
    let weight = c.in_ok-found.found.weight in
    let rooms = c.deref.result.now in
    let targets = c.deref-2.result.now in
    let graph : Weighted = record { vertices = c.args.ground.now.graph.vertices; edges = c.args.ground.now.graph.edges.items } in
    let is = c.args.ground.now.graphed in
    let are : AreTargets survey group start rooms targets = found_targets survey group start c.in_ok-found.found.rooms.items rooms c.in_ok-found.found.targets.items targets c.deref.ensures.value c.deref-2.ensures.value (c.in_ok-found.ensures.targets group same) in
    let weighs = c.in_ok-found.ensures.weight group same in
    let found = subst (λ (d : Drained). IsDrained graph.edges rooms start (weight + weight) targets d) c.in-Just.is c.in_ok-drained.ensures in
    let effect = c.effect_of-effect-in-Just.result in
    let moves = subst (λ (side : List Bool). Moves survey c.args.mistaken.now Ties side effect) c.deref-in-Just.ensures.value c.effect_of-effect-in-Just.ensures in
    record {
      weight = weighs;
      effect = λ at. just_effect survey group c.args.mistaken.now same start weight at rooms targets are graph is weighs c.in-Just.side.items effect found.0 found.1 moves;
      drained = λ at. side_drained survey group c.args.mistaken.now same start weight at rooms targets are graph is weighs (weight + weight) c.in-Just.side.items found.0;
    }

pub returns : goal.returns
returns c group same =
    let survey = c.args.ground.now.network.now in
    let start = c.args.start in
    let weight = c.in_ok-found.found.weight in
    let rooms = c.deref.result.now in
    let targets = c.deref-2.result.now in
    let graph : Weighted = record { vertices = c.args.ground.now.graph.vertices; edges = c.args.ground.now.graph.edges.items } in
    let is = c.args.ground.now.graphed in
    let are : AreTargets survey group start rooms targets = found_targets survey group start c.in_ok-found.found.rooms.items rooms c.in_ok-found.found.targets.items targets c.deref.ensures.value c.deref-2.ensures.value (c.in_ok-found.ensures.targets group same) in
    let weighs = c.in_ok-found.ensures.weight group same in
    let found = subst (λ (d : Drained). IsDrained graph.edges rooms start (weight + weight) targets d) c.in-More.is c.in_ok-drained.ensures in
    record {
      weight = weighs;
      effect = λ at. more_effect survey group c.args.mistaken.now same start weight at rooms targets are graph is weighs found.0 c.shown.result c.shown.ensures c.in_ok-found.ensures.weigh c.in_ok-found.ensures.anchored found.1;
      drained = λ at. more_drained survey group c.args.mistaken.now same start weight at rooms targets are graph is weighs found.0;
    }
