use Rattle.std.proofs.Common.{◌≡◌, ◌||◌, Bool, List, get_or, take, sym, ap, ◌∙◌}
use Rattle.std.specs.List.{list_any}
use Rattle.std.proofs.lemmas.List.Folds.{list_any_more}
use Rattle.gsi_word.specs.Names.{same_name}
use Rattle.th_observations.specs.Observed.{Observed}
use Rattle.th_notes.specs.Inside.Sets.{has_name}
use Rattle.th_notes.proofs.FindingLemmas.{one_more_name}
use Rattle.th_notes.proofs.sightings.stations_of.Goals as goal

pub loop-o-preserved : goal.loop-o-preserved
loop-o-preserved c =
    let observations : List Observed = c.args.observations.now in
    let i = c.loop-o.o-index in
    let o : Observed = c.o-item.result in
    let is : o ≡ get_or observations i o = c.o-item.is in
    λ name.
    let from : Observed → Bool = λ (o : Observed). same_name o.station name in
    let old : Bool = has_name c.loop-o.stations name in
    one_more_name c.loop-o.stations _ c.ends-station.result.0 name c.in_ok-insert.ensures.updates
    ∙ ap (λ (station : List _). old || same_name station name) c.ends-station.ensures.station
    ∙ ap (λ (b : Bool). b || from o) (c.loop-o.invariant name)
    ∙ ap (λ (o : Observed). list_any from (take i observations) || from o) is
    ∙ sym (list_any_more from observations i o c.loop-o-test.true)
