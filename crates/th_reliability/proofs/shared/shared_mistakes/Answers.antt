use Rattle.std.proofs.Common.{◌≡◌, ◌∙◌, All, List, Option, get_or, take, subst, sym}
use Rattle.std.specs.Prelude.{IfSome}
use Rattle.std.proofs.lemmas.List.{take_more}
use Rattle.th_observations.specs.Observed.{Observed}
use Rattle.th_network.specs.Networks.{Survey}
use Rattle.th_reliability.specs.Effects.{IsEffect}
use Rattle.th_reliability.specs.Sights.{IsOfOneStation, in_sights}
use Rattle.th_reliability.specs.declared.effects.Effect.{Effect}
use Rattle.th_reliability.specs.declared.sights.Sights.{Sights}
use Rattle.th_reliability.proofs.EntryLemmas.{same_effect}
use Rattle.th_reliability.proofs.ZipLemmas.{zip_more}
use Rattle.th_reliability.proofs.shared.shared_mistakes.Goals as goal
use Rattle.th_reliability.proofs.shared.shared_mistakes.Goals.{in-Some, in-None+in_ok-effect-in-None}

pub shared_effect-requires-clause-one : goal.shared_effect-requires-clause-one
shared_effect-requires-clause-one g c =
    let none : Sights = record { book = 0; first = 0; last = 0 } in
    subst (λ (own : Survey). IsOfOneStation own.observations (get_or c.args.entries.now c.loop-entry.entry-index none)) (sym c.in_ok-ground.ensures) (c.requires.one c.loop-entry.entry-index none c.loop-entry-test.true)

pub loop-entry-preserved : goal.loop-entry-preserved
loop-entry-preserved g c =
    let survey = c.args.network.now in
    let none : Sights = record { book = 0; first = 0; last = 0 } in
    let entry : Sights = get_or c.args.entries.now c.loop-entry.entry-index none in
    let here : IsEffect survey (in_sights entry) c.match-known_effect.effect = elim c.match-known_effect.branch [
      | in-Some w ↦
          let own = w.in-Some.ensures.0 in
          let same = subst (λ (os : List Observed). All (λ o. in_sights own o ≡ in_sights entry o) os) (c.of-runs.ensures ∙ c.observations.ensures.observations) w.in-Some.ensures.2 in
          let known = subst (λ (o : Option (Sights × Effect)). IfSome o (λ own. IsEffect survey (in_sights own.0) own.1)) w.in-Some.ensures.1 c.loop-entry.invariant.known in
          subst (IsEffect survey (in_sights entry)) (sym w.effect-is) (same_effect survey (in_sights own) (in_sights entry) same w.in-Some.known known)
      | in-None+in_ok-effect-in-None w ↦ subst (IsEffect survey (in_sights entry)) (sym w.effect-is) (subst (λ (own : Survey). IsEffect own (in_sights entry) w.in_ok-effect-in-None.effect) c.in_ok-ground.ensures w.in_ok-effect-in-None.ensures)
    ] in
    record {
      found = rw (take_more c.args.entries.now c.loop-entry.entry-index none c.loop-entry-test.true) (zip_more (λ entry effect. IsEffect c.args.network.now (in_sights entry) effect) (take c.loop-entry.entry-index c.args.entries.now) c.loop-entry.effects.items c.push.new.self.items _ c.match-known_effect.effect c.loop-entry.invariant.found here c.in_ok-push.ensures.items);
      known = here;
    }
