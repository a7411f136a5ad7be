use Rattle.std.proofs.Common.{◌≡◌, ◌<◌, ◌+◌, ◌∙◌, ℕ, List, Option, Some, None, get_or, slice_get, length, ap, sym, subst, arith}
use Rattle.std.proofs.lemmas.List.{get_or-map}
use Rattle.std.proofs.lemmas.Option.{slice_get-get_or}
use Rattle.th_observations.specs.Observed.{Observed}
use Rattle.th_tables.specs.Rows.{weight_of}
use Rattle.th_reliability.specs.Sights.{in_sights}
use Rattle.th_reliability.specs.Inside.Bounds.{AreNoLess, is_above_twice}
use Rattle.th_reliability.specs.Runs.{HoldsSights}
use Rattle.th_reliability.proofs.BoundLemmas.{all_held, none_held, one_held, shows_above}
use Rattle.th_reliability.proofs.WeightLemmas.{heavy_listed}
use Rattle.th_reliability.proofs.bounds.shows_by_controls.Goals as goal
use Rattle.th_reliability.proofs.bounds.shows_by_controls.Goals.{then-hold, else-hold}

pub loop-i-preserved : goal.loop-i-preserved
loop-i-preserved c =
    let survey = c.args.network.now in
    let group = in_sights c.args.sights.now in
    let i = c.loop-i.i in
    let o = c.index-observations-i.result in
    let all = c.observations-observations.ensures.observations in
    let within : i < length survey.observations = omega (arith, ap length c.requires.runs, c.run_of-start.ensures.within, c.loop-i-test.true) in
    let is : o ≡ get_or survey.observations i o = c.index-observations-i.is ∙ ap (λ (os : List Observed). get_or os i o) all in
    elim c.if-hold.branch [
      | then-hold w ↦
          let control : Option ℕ = get_or c.args.controls.now i None in
          let weight_at = λ (o : Observed). weight_of survey.weights o.station o.target in
          let at : slice_get survey.observations i ≡ Some o = slice_get-get_or survey.observations i o within ∙ ap Some (sym is) in
          let own : ℕ = get_or c.weights-weights.result.now i 0 in
          let weight : own ≡ weight_at o = ap (λ (listed : List ℕ). get_or listed i 0) c.weights-weights.ensures.weights ∙ get_or-map weight_at survey.observations i o 0 within ∙ ap weight_at (sym is) in
          let more = one_held survey group c.loop-i.least w.lesser-least.result control i own o is within (c.requires.controls.are i o None at) weight w.lesser-least.ensures.here w.lesser-least.ensures.kept c.loop-i.invariant in
          subst (λ (least : Option ℕ). AreNoLess survey group least (i + 1)) (sym w.least-is) more
      | else-hold w ↦
          subst (λ (least : Option ℕ). AreNoLess survey group least (i + 1)) (sym w.least-is) (none_held survey group c.loop-i.least i o is within (sym c.hold.ensures ∙ w.if-hold.false) c.loop-i.invariant)
    ]

pub returns : goal.returns
returns c above =
    let survey = c.args.network.now in
    let sights = c.args.sights.now in
    let group = in_sights sights in
    let run : HoldsSights survey.observations sights c.run_of-start.result =
    subst (λ (observations : List Observed). HoldsSights observations sights c.run_of-start.result) c.requires.runs c.run_of-start.ensures in
    let all = all_held survey sights c.loop-i.least c.run_of-start.result c.loop-i.i run c.loop-i-test.false c.loop-i.invariant in
    shows_above survey group c.loop-i.least (heavy_listed survey c.weights-weights.result.now c.weights-weights.ensures.weights c.weights-weights.ensures.in_range) c.observations-observations.ensures.network.anchored all
    (ap (is_above_twice c.loop-i.least) (sym c.requires.weight) ∙ sym c.is_above_twice.ensures ∙ above)
