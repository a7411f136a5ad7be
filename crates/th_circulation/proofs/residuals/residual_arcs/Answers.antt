use Rattle.std.proofs.Common.{◌≤◌, pos, Some, List, All, length, get_or, slice_get, take, ap, sym, ◌∙◌, subst, below_more, arith}
use Rattle.std.proofs.lemmas.Int.{ints}
use Rattle.std.proofs.lemmas.List.{get_or_default, length-map}
use Rattle.std.proofs.lemmas.List.Elements.{All-from_recursion, All-take, recursion_from_All}
use Rattle.std.proofs.lemmas.Option.{get_or_from_slice_get, slice_get-get_or}
use Rattle.th_observations.specs.Observed.{Observed}
use Rattle.th_tables.specs.Rows.{weight_of}
use Rattle.th_network.specs.Links.{link_of}
use Rattle.th_network.specs.Networks.{arcs_of, vertices_of, weights_of}
use Rattle.th_network.specs.declared.links.Link.{Link}
use Rattle.th_search.specs.Walks.{IsArc}
use Rattle.th_circulation.proofs.ResidualLemmas.{IsLink, arcs_more, arcs_within, links_within}
use Rattle.th_circulation.proofs.residuals.residual_arcs.Goals as goal

pub loop-place-preserved : goal.loop-place-preserved
loop-place-preserved c =
    let network = c.args.network.now in
    let flows = c.args.flows.now in
    let i = c.loop-place.place in
    let links = c.arcs-links.result.now in
    let are = c.arcs-links.ensures.arcs in
    let long = ap (λ (ls : List Link). length ls) are in
    let each = c.requires in
    let test = c.loop-place-test.true in
    let link = slice_get-get_or links i (record { tail = 0; head = 0; diff = pos 0 }) (omega arith) in
    let flow = slice_get-get_or flows i (pos 0) (omega arith) in
    let weight = get_or_from_slice_get (weights_of network) i c.weight.result 0 c.weight.ensures.weight in
    let positive = c.weight.ensures.positive in
    record {
      arcs = arcs_more (arcs_of network) (weights_of network) flows i _ c.weight.result _ c.loop-place.arcs.items c.add_arcs.new.arcs.items (ap (λ (ls : List Link). slice_get ls i) (sym are) ∙ link) c.weight.ensures.weight (flow ∙ ap Some (omega (arith, ints))) c.loop-place.invariant.arcs c.in_ok-add_arcs.ensures;
      heavy = below_more (λ k. 1 ≤ get_or (weights_of network) k 0) i c.loop-place.invariant.heavy (omega arith);
    }

pub returns-clause-ends : goal.returns-clause-ends
returns-clause-ends c =
    let network = c.args.network.now in
    let i = c.loop-place.place in
    let are = c.arcs-links.ensures.arcs in
    let n = vertices_of network in
    let links = subst (All (IsLink n)) are (links_within n c.arcs-links.result.now c.arcs-links.ensures.ends c.arcs-links.ensures.in_range) in
    let within = arcs_within n (take i (arcs_of network)) (take i (weights_of network)) (take i c.args.flows.now) (recursion_from_All (IsLink n) (take i (arcs_of network)) (All-take (IsLink n) i (arcs_of network) links)) in
    subst (All (IsArc n)) (sym c.loop-place.invariant.arcs) (All-from_recursion (IsArc n) _ within)

pub returns-clause-heavy : goal.returns-clause-heavy
returns-clause-heavy c = λ k d within.
    let network = c.args.network.now in
    let are = ap (λ (ls : List Link). length ls) c.arcs-links.ensures.arcs in
    let test = c.loop-place-test.false in
    let links = length-map network.observations (link_of network.observations network.benchmarks) in
    let weights = length-map network.observations (λ (o : Observed). weight_of network.weights o.station o.target) in
    let heavy = c.loop-place.invariant.heavy k (omega arith) in
    let same = get_or_default (weights_of network) k 0 d within in
    omega arith
