use Rattle.std.proofs.Common.{◌≡◌, ◌||◌, Bool, List, get_or, take, sym, ap, ◌∙◌, arith}
use Rattle.std.specs.List.{list_any}
use Rattle.std.proofs.lemmas.List.{take_all}
use Rattle.std.proofs.lemmas.List.Folds.{list_any_more}
use Rattle.gsi_word.specs.Names.{same_pair}
use Rattle.th_observations.specs.Observed.{Observed}
use Rattle.th_notes.specs.Seen.{was_observed}
use Rattle.th_notes.specs.Inside.Sets.{has_pair}
use Rattle.th_notes.proofs.FindingLemmas.{one_more_pair}
use Rattle.th_notes.proofs.tables.pairs_of.Goals as goal

pub loop-o-preserved : goal.loop-o-preserved
loop-o-preserved c =
    let observations : List Observed = c.args.observations.now in
    let i = c.loop-o.o-index in
    let o : Observed = c.o-item.result in
    let is : o ≡ get_or observations i o = c.o-item.is in
    λ ends.
    let runs : Observed → Bool = λ (o : Observed). same_pair (o.station, o.target) ends in
    let old : Bool = has_pair c.loop-o.pairs ends in
    let key : same_pair c.ends.result ends ≡ runs o = λ j. same_pair (c.ends.ensures.station j, c.ends.ensures.target j) ends in
    one_more_pair c.loop-o.pairs _ c.ends.result ends c.in_ok-insert.ensures.updates
    ∙ ap (λ (b : Bool). old || b) key
    ∙ ap (λ (b : Bool). b || runs o) (c.loop-o.invariant ends)
    ∙ ap (λ (o : Observed). list_any runs (take i observations) || runs o) is
    ∙ sym (list_any_more runs observations i o c.loop-o-test.true)

pub returns : goal.returns
returns c =
    let observations : List Observed = c.args.observations.now in
    λ ends. c.loop-o.invariant ends ∙ ap (λ (os : List Observed). was_observed os ends) (take_all c.loop-o.o-index observations (omega arith))
