use Rattle.std.proofs.Common.{◌≡◌, ℤ, ◌*ℤ◌, w64, ap, sym, ◌∙◌, arith}
use Rattle.std.proofs.lemmas.Int.{ints, to_z-of_z}
use Rattle.th_observations.specs.Observed.{Observed}
use Rattle.th_changes.specs.Tilted.{tilted_observation}
use Rattle.th_changes.specs.Numbers.{touch}
use Rattle.th_changes.proofs.TiltLemmas.{moved_in_range, observed_same}
use Rattle.th_changes.proofs.tilting.tilted_observation.Goals as goal

pub invariant_of-result : goal.invariant_of-result
invariant_of-result c =
    let o : Observed = c.args.o.now in
    let touched : ℤ = touch c.args.number.now o in
    let same = to_z-of_z w64 c.args.change c.ranges.change in
    let product : c.times.result ≡ c.args.change *ℤ touched = c.times.ensures.times ∙ ap (λ z. z *ℤ touched) same in
    let own : c.difference.result ≡ o.difference = c.difference.ensures.value in
    let small = moved_in_range o.difference c.args.change touched (omega (arith, ints)) (omega (arith, ints)) c.requires.room in
    record {
      distinct = λ both. c.ends-station.ensures.distinct (sym c.ends-station.ensures.station ∙ both ∙ c.ends-station.ensures.target);
      in_range = omega (arith, ints);
    }

pub returns : goal.returns
returns c =
    let o : Observed = c.args.o.now in
    let touched : ℤ = touch c.args.number.now o in
    let same = to_z-of_z w64 c.args.change c.ranges.change in
    let product : c.times.result ≡ c.args.change *ℤ touched = c.times.ensures.times ∙ ap (λ z. z *ℤ touched) same in
    let own : c.difference.result ≡ o.difference = c.difference.ensures.value in
    observed_same _ (tilted_observation c.args.number.now c.args.change o) c.ends-station.ensures.station c.ends-station.ensures.target (omega (arith, ints))
    (ap (λ (v : Observed). v.book) c.o.view_is) (ap (λ (v : Observed). v.line) c.o.view_is)
