use Rattle.std.proofs.Common.{◌≡◌, ◌<◌, ℕ, ℤ, List, Some, ap, length, of_z, slice_get, subst, sym, to_z, w64, ◌∙◌}
use Rattle.std.proofs.lemmas.Int.{to_z-of_z}
use Rattle.th_changes.proofs.TiltLemmas.{points_tilted}
use Rattle.th_changes.specs.Tilted.{tilted}
use Rattle.th_network.specs.Networks.{Survey, points_of}
use Rattle.th_names.specs.Rises.{AreRises}
use Rattle.th_names.proofs.LocatedLemmas.{each_high, each_low}
use Rattle.th_names.proofs.distances.rises_with.Goals as goal

pub rises_from-requires-clause-place : goal.rises_from-requires-clause-place
rises_from-requires-clause-place c =
    let survey = c.args.network.now in
    let x : ℤ = to_z w64 (of_z w64 c.args.change) in
    let same : points_of c.in_ok-own.own ≡ points_of survey = ap points_of c.in_ok-own.ensures ∙ points_tilted c.args.number.now x survey.observations survey.benchmarks in
    subst (λ (points : List (List ℕ)). c.args.place < length points) (sym same) c.requires.place

pub returns-clause-rises : goal.returns-clause-rises
returns-clause-rises c = λ from at.
    let survey = c.args.network.now in
    let number = c.args.number.now in
    let x : ℤ = to_z w64 (of_z w64 c.args.change) in
    let low : List ℤ = c.in_ok-rises.rises.low.items in
    let high : List ℤ = c.in_ok-rises.rises.high.items in
    let same : points_of c.in_ok-own.own ≡ points_of survey = ap points_of c.in_ok-own.ensures ∙ points_tilted number x survey.observations survey.benchmarks in
    let there : slice_get (points_of c.in_ok-own.own) c.args.place ≡ Some from = ap (λ (points : List (List ℕ)). slice_get points c.args.place) same ∙ at in
    subst (λ (change : ℤ). AreRises (tilted number change survey) from low high) (to_z-of_z w64 c.args.change c.ranges.change)
    (subst (λ (own : Survey). AreRises own from low high) c.in_ok-own.ensures (c.in_ok-rises.ensures.rises from there))

pub returns-clause-low : goal.returns-clause-low
returns-clause-low c =
    let survey = c.args.network.now in
    let x : ℤ = to_z w64 (of_z w64 c.args.change) in
    let same : points_of c.in_ok-own.own ≡ points_of survey = ap points_of c.in_ok-own.ensures ∙ points_tilted c.args.number.now x survey.observations survey.benchmarks in
    each_low c.in_ok-own.own survey c.args.place c.in_ok-rises.rises.low.items c.in_ok-rises.rises.high.items same c.requires.place c.in_ok-rises.ensures.rises

pub returns-clause-high : goal.returns-clause-high
returns-clause-high c =
    let survey = c.args.network.now in
    let x : ℤ = to_z w64 (of_z w64 c.args.change) in
    let same : points_of c.in_ok-own.own ≡ points_of survey = ap points_of c.in_ok-own.ensures ∙ points_tilted c.args.number.now x survey.observations survey.benchmarks in
    each_high c.in_ok-own.own survey c.args.place c.in_ok-rises.rises.low.items c.in_ok-rises.rises.high.items same c.requires.place c.in_ok-rises.ensures.rises
