use Rattle.std.proofs.Common.{◌≡◌, ℕ, ◌<◌, ◌≤◌, ◌+◌, ◌∙◌, List, [], length, take, ap, sym, subst, arith}
use Rattle.th_limits.specs.Limits.{max_total_weight}
use Rattle.th_cuts.specs.declared.edges.Edge.{Edge}
use Rattle.th_cuts.specs.CutWeights.{cut_weight}
use Rattle.th_cuts.specs.Inside.CutTrees.{with_edge}
use Rattle.th_cuts.specs.Graphs.{edge_at}
use Rattle.th_cuts.specs.Drains.{room_at}
use Rattle.th_cuts.proofs.NearLemmas.{alone, length_with_edge, lone_fits, lone_step}
use Rattle.th_cuts.proofs.near.lone_weights.Goals as goal

pub add-requires-clause-ends : goal.add-requires-clause-ends
add-requires-clause-ends c =
    let graph = c.args.graph.now in
    let same = c.deref-edge-items.ensures.value in
    let k = c.loop-edge.edge-index in
    let within : k < length graph.edges.items = omega (arith, c.loop-edge-test.true, ap (λ es. length es) same) in
    let ends = graph.graph.ends k (edge_at [] 0) within in
    let each = c.loop-edge.invariant.each in
    subst (λ (es : List Edge). ((edge_at es k).tail < length c.loop-edge.lone.items) × ((edge_at es k).head < length c.loop-edge.lone.items)) (sym same) (omega arith, omega arith)

pub add-requires-clause-tail : goal.add-requires-clause-tail
add-requires-clause-tail c =
    let graph = c.args.graph.now in
    let edges = graph.edges.items in
    let same = c.deref-edge-items.ensures.value in
    let k = c.loop-edge.edge-index in
    let within : k < length edges = omega (arith, c.loop-edge-test.true, ap (λ es. length es) same) in
    let ends = graph.graph.ends k (edge_at [] 0) within in
    let each = c.loop-edge.invariant.each in
    let is = c.loop-edge.invariant.weigh (edge_at edges k).tail (omega arith) in
    let fits = lone_fits edges k (edge_at edges k).tail within in
    let light = graph.graph.light in
    subst (λ (es : List Edge). room_at c.loop-edge.lone.items (edge_at es k).tail + (edge_at es k).weight ≤ max_total_weight) (sym same) (omega arith)

pub add-requires-clause-head : goal.add-requires-clause-head
add-requires-clause-head c =
    let graph = c.args.graph.now in
    let edges = graph.edges.items in
    let same = c.deref-edge-items.ensures.value in
    let k = c.loop-edge.edge-index in
    let within : k < length edges = omega (arith, c.loop-edge-test.true, ap (λ es. length es) same) in
    let ends = graph.graph.ends k (edge_at [] 0) within in
    let each = c.loop-edge.invariant.each in
    let is = c.loop-edge.invariant.weigh (edge_at edges k).head (omega arith) in
    let fits = lone_fits edges k (edge_at edges k).head within in
    let light = graph.graph.light in
    subst (λ (es : List Edge). room_at c.loop-edge.lone.items (edge_at es k).head + (edge_at es k).weight ≤ max_total_weight) (sym same) (omega arith)

pub loop-edge-preserved : goal.loop-edge-preserved
loop-edge-preserved c =
    let graph = c.args.graph.now in
    let edges = graph.edges.items in
    let same = c.deref-edge-items.ensures.value in
    let k = c.loop-edge.edge-index in
    let lone = c.loop-edge.lone.items in
    let within : k < length edges = omega (arith, c.loop-edge-test.true, ap (λ es. length es) same) in
    let ends = graph.graph.ends k (edge_at [] 0) within in
    let each = c.loop-edge.invariant.each in
    let now = c.add.ensures ∙ ap (λ (es : List Edge). with_edge lone (edge_at es k)) same in
    record {
      each = ap (λ (l : List ℕ). length l) now ∙ length_with_edge lone (edge_at edges k) ∙ each;
      weigh = subst (λ (l : List ℕ). (vertex : ℕ) → vertex < length l → room_at l vertex ≡ cut_weight (alone vertex) (take (k + 1) edges)) (sym now) (lone_step edges k lone within (omega arith) (omega arith) c.loop-edge.invariant.weigh);
    }
