use Rattle.std.proofs.Common.{◌<◌, ℕ, List, [], get_or, length, ap, sym, ◌∙◌, subst, arith}
use Rattle.std.proofs.lemmas.Int.{ints}
use Rattle.std.proofs.lemmas.Option.{slice_get-get_or}
use Rattle.th_network.specs.Networks.{points_of}
use Rattle.th_search.specs.Distances.{AreWithin}
use Rattle.th_search.specs.Limits.{farthest}
use Rattle.th_search.specs.Potentials.{value_at}
use Rattle.th_names.specs.Inside.Rooted.{rise_by, root_of}
use Rattle.th_names.proofs.RiseLemmas.{push_more}
use Rattle.th_names.proofs.rises.listed.Goals as goal

pub rise_by-requires-clause-distances : goal.rise_by-requires-clause-distances
rise_by-requires-clause-distances c = subst (λ n. AreWithin n farthest c.args.distances.now) (sym c.requires.distances.each) c.requires.distances

pub loop-place-preserved : goal.loop-place-preserved
loop-place-preserved c =
    let network = c.args.network.now in
    let points = points_of network in
    let i = c.loop-place.place in
    let long = ap (λ (ns : List (List ℕ)). length ns) c.points-points.ensures.points in
    let test = c.loop-place-test.true in
    let within : i < length points = omega arith in
    let at = slice_get-get_or points i [] within in
    let own = c.root_at-own.ensures.root (get_or points i []) at in
    let small = c.rise_by.ensures.small in
    let rise = c.rise_by.ensures.rise ∙ ap (rise_by c.args.root c.args.way (value_at c.args.distances.now)) own in
    push_more (λ name. rise_by c.args.root c.args.way (value_at c.args.distances.now) (root_of network name)) points i _ _ _ c.in_ok-push.ensures.items c.loop-place.invariant (omega (arith, ints)) within
