use Rattle.std.proofs.Common.{[], ◌∙◌, ap}
use Rattle.indexmap.specs.IndexMap.{insert_all}
use Rattle.th_hash.proofs.ReseedLemmas.{distinct_entries}
use Rattle.th_hash.proofs.maps.reseed_map.Goals as goal

pub returns-clause-entries : goal.returns-clause-entries
returns-clause-entries g c =
    let entries = c.args.map.now.entries in
    c.in_ok-append.ensures.entries
    ∙ ap (λ none. insert_all g.K.PartialEq.eq none entries) c.in_ok-seeded.ensures.empty
    ∙ distinct_entries g.met.K.Eq.laws [] entries c.len.ensures.unique
