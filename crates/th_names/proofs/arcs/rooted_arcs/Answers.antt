use Rattle.std.proofs.Common.{pos, List, Some, length, map, slice_get, ap, sym, ◌∙◌, arith}
use Rattle.std.proofs.lemmas.Int.{ints}
use Rattle.std.proofs.lemmas.List.{length-map}
use Rattle.std.proofs.lemmas.Option.{slice_get-get_or}
use Rattle.th_network.specs.Networks.{arcs_of, weights_of}
use Rattle.th_network.specs.declared.links.Link.{Link}
use Rattle.th_circulation.proofs.ResidualLemmas.{arcs_more}
use Rattle.th_names.specs.Inside.Rooted.{exchanged_link}
use Rattle.th_names.proofs.RootedLemmas.{all_taken, slice_get_map}
use Rattle.th_names.proofs.arcs.rooted_arcs.Goals as goal

pub loop-place-preserved : goal.loop-place-preserved
loop-place-preserved c =
    let network = c.args.network.now in
    let flows = c.args.flows.now in
    let i = c.loop-place.place in
    let links = c.arcs-links.result.now in
    let are = c.arcs-links.ensures.arcs in
    let long = ap (λ (ls : List Link). length ls) are in
    let each = c.requires in
    let test = c.loop-place-test.true in
    let link = slice_get-get_or links i (record { tail = 0; head = 0; diff = pos 0 }) (omega arith) in
    let flow = slice_get-get_or flows i (pos 0) (omega arith) in
    let moved = slice_get_map (exchanged_link c.args.root) (arcs_of network) i _ (ap (λ (ls : List Link). slice_get ls i) (sym are) ∙ link) ∙ ap Some (sym c.exchanged_link-own.ensures) in
    arcs_more (map (exchanged_link c.args.root) (arcs_of network)) (weights_of network) flows i _ c.weight.result _ c.loop-place.arcs.items c.add_arcs.new.arcs.items moved c.weight.ensures.weight (flow ∙ ap Some (omega (arith, ints))) c.loop-place.invariant c.in_ok-add_arcs.ensures

pub returns : goal.returns
returns c =
    let network = c.args.network.now in
    let i = c.loop-place.place in
    let long = ap (λ (ls : List Link). length ls) c.arcs-links.ensures.arcs in
    let test = c.loop-place-test.false in
    let own = length-map (arcs_of network) (exchanged_link c.args.root) in
    c.loop-place.invariant ∙ all_taken i (map (exchanged_link c.args.root) (arcs_of network)) (weights_of network) c.args.flows.now (omega arith)
