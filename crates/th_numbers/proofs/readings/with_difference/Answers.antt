use Rattle.std.proofs.Common.{ap, arith}
use Rattle.std.proofs.lemmas.Int.{ints}
use Rattle.th_observations.specs.Observed.{Observed}
use Rattle.th_changes.proofs.TiltLemmas.{observed_same}
use Rattle.th_numbers.specs.Readings.{with_difference}
use Rattle.th_numbers.proofs.readings.with_difference.Goals as goal

pub returns : goal.returns
returns c =
    let o : Observed = c.args.o.now in
    observed_same _ (with_difference o c.args.difference) c.ends-station.ensures.station c.ends-station.ensures.target (omega (arith, ints))
    (ap (λ (v : Observed). v.book) c.o.view_is) (ap (λ (v : Observed). v.line) c.o.view_is)
