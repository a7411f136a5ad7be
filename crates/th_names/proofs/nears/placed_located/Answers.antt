use Rattle.std.proofs.Common.{◌≡◌, ℕ, List, Some, slice_get, subst, sym, ap, ◌∙◌}
use Rattle.th_network.specs.Networks.{points_of}
use Rattle.th_points.specs.Places.{place_of}
use Rattle.th_names.specs.Gaps.{name_in}
use Rattle.th_names.proofs.NamingLemmas.{placed_is}
use Rattle.th_names.proofs.nears.placed_located.Goals as goal

pub located_of-requires-clause-naming : goal.located_of-requires-clause-naming
located_of-requires-clause-naming c = (placed_is c.args.network.now c.args.naming.now c.requires.placed).0

pub located_of-requires-clause-place : goal.located_of-requires-clause-place
located_of-requires-clause-place c =
    let survey = c.args.network.now in
    let name = name_in c.args.naming.now in
    let place : c.place_in-place.result ≡ place_of (points_of survey) name = c.place_in-place.ensures ∙ ap (λ (names : List (List ℕ)). place_of names c.name.result) c.points.ensures.points ∙ ap (place_of (points_of survey)) c.name.ensures in
    subst (λ k. slice_get (points_of survey) k ≡ Some name) (sym place) (placed_is survey c.args.naming.now c.requires.placed).1
