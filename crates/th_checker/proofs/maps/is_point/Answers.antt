use Rattle.std.proofs.Common.{◌≡◌, Some, slice_get, bytes_eq, sym, ◌∙◌}
use Rattle.std.proofs.lemmas.List.Folds.{list_any_at}
use Rattle.std.proofs.lemmas.Option.{get_or_from_slice_get, slice_get_within}
use Rattle.std.proofs.lemmas.Slice.Eq.{bytes_eq-Decides}
use Rattle.th_checker.proofs.maps.is_point.Goals as goal

pub returns-in-Some : goal.returns-in-Some
returns-in-Some c =
    let points = c.args.points.now.keys in
    let name = c.args.name.now in
    let there = c.in-Some.there.now in
    let found : slice_get points c.args.place ≡ Some there = sym c.in-Some.ensures.key in
    let same : there ≡ name = (bytes_eq-Decides there name).0 (sym c.eq.ensures ∙ c.if-eq.true) in
    let here = get_or_from_slice_get points c.args.place there there found in
    sym (list_any_at (bytes_eq name) points c.args.place there (slice_get_within points c.args.place there found) ((bytes_eq-Decides name _).1 (sym (here ∙ same))))
