use Rattle.std.proofs.Common.{[], ◌∙◌, ap}
use Rattle.indexmap.specs.IndexSet.{insert_all}
use Rattle.th_hash.proofs.ReseedLemmas.{distinct_keys}
use Rattle.th_hash.proofs.maps.reseed_set.Goals as goal

pub returns-clause-keys : goal.returns-clause-keys
returns-clause-keys g c =
    let keys = c.args.set.now.keys in
    c.in_ok-append.ensures.keys
    ∙ ap (λ none. insert_all g.K.PartialEq.eq none keys) c.in_ok-seeded.ensures.empty
    ∙ distinct_keys g.met.K.Eq.laws [] keys c.len.ensures.unique
