use Rattle.std.proofs.Common.{◌∙◌, refl, subst, sym}
use Rattle.th_reliability.specs.Effects.{IsEffect}
use Rattle.th_reliability.specs.Sights.{in_sights}
use Rattle.th_reliability.proofs.MarkLemmas.{run_marked}
use Rattle.th_reliability.proofs.shared.shared_effect.Goals as goal

pub returns-then-shows_by_controls : goal.returns-then-shows_by_controls
returns-then-shows_by_controls c =
    subst (IsEffect c.args.ground.now.network.now (in_sights c.args.sights.now)) (sym c.shown.ensures) (record { word = c.shows_by_controls.ensures c.if-shows_by_controls.true; blame = refl })

pub effect_at-requires-clause-run : goal.effect_at-requires-clause-run
effect_at-requires-clause-run c =
    run_marked c.args.runs.now.observations.now c.args.sights.now c.run_of.result c.deref.result.now c.run_of.ensures (c.deref.ensures.value ∙ c.in_ok-mistaken.ensures)
