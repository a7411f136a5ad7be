use Rattle.std.proofs.Common.{◌∙◌, List, map, subst, sym, ap}
use Rattle.std.specs.List.{All, AllZip}
use Rattle.th_reliability.specs.Effects.{IsEffect}
use Rattle.th_reliability.specs.Sights.{IsOfOneStation, in_sights}
use Rattle.th_reliability.specs.declared.sights.Sights.{Sights}
use Rattle.th_review_rows.specs.Entries.{entries_of, sights_of}
use Rattle.th_runs.proofs.EntryLemmas.{all_of_one_station, of_entries}
use Rattle.th_run_parts.proofs.ReaderLemmas.{if_ok}
use Rattle.th_runs.proofs.findings.effects_of.Goals as goal

pub shared_mistakes-requires-clause-one : goal.shared_mistakes-requires-clause-one
shared_mistakes-requires-clause-one g c =
    subst (All (IsOfOneStation c.args.network.now.observations)) (sym (c.deref-2.ensures.value ∙ c.in_ok-sights.ensures ∙ ap (map sights_of) (c.deref.ensures.value ∙ c.in_ok-entries.ensures)))
    (all_of_one_station c.args.network.now.observations (entries_of c.args.reviews.now) c.requires.stations)

pub returns : goal.returns
returns g c =
    if_ok _ _ c.shared_mistakes.result
    (λ effects all. of_entries c.args.network.now (entries_of c.args.reviews.now) effects.items
    (subst (λ (own : List Sights). AllZip (λ sights effect. IsEffect c.args.network.now (in_sights sights) effect) own effects.items)
    (c.deref-2.ensures.value ∙ c.in_ok-sights.ensures ∙ ap (map sights_of) (c.deref.ensures.value ∙ c.in_ok-entries.ensures)) all))
    c.shared_mistakes.ensures
