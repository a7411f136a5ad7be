use Rattle.std.proofs.Common.{◌≤◌, ℕ, ℤ, List, All, length, ap, sym, subst, arith}
use Rattle.th_search.specs.Potentials.{value_at}
use Rattle.th_tables.specs.Limits.{max_weight}
use Rattle.th_circulation.specs.Inside.PointHeights.{ArePointHeights}
use Rattle.th_circulation.specs.Settled.{IsSettled}
use Rattle.th_search.proofs.WithinLemmas.{written}
use Rattle.th_circulation.proofs.SettledLemmas.{is_settled}
use Rattle.th_circulation.proofs.starts.settled_from.Goals as goal

pub returns : goal.returns
returns c =
    let survey = c.args.network.now in
    let work = c.start_from.new.self in
    let graph = c.of-graph in
    let done = c.in_ok-start_from.ensures.done c.if-not-branch.false in
    let lent = ap (λ (hs : List ℤ). length hs) c.deref_mut.ensures.value in
    let kept = c.set_point_heights.auto.listed in
    let long = c.deref_mut.ensures.len in
    let many = c.in_ok-heights.ensures.len in
    let names = ap (λ (ns : List (List ℕ)). length ns) c.points.ensures.points in
    let is = written c.in_ok-heights.heights.len c.set_point_heights.new.listed c.in_ok-heights.heights.items (omega arith) (omega arith) in
    let point_heights = subst (λ (hs : List ℤ). ArePointHeights survey.observations survey.benchmarks (value_at hs) c.set_point_heights.new.listed) c.deref.ensures.value c.set_point_heights.ensures.point_heights in
    let light = subst (All (λ (weight : ℕ). weight ≤ max_weight)) graph.ensures.weights graph.result.graph.light in
    let settled = is_settled survey graph.result.links.now graph.result.weights.now c.set_point_heights.new.listed work.state.flows.items (value_at work.state.heights.items) graph.ensures.links graph.ensures.weights light done.flow done.shown.shown point_heights (record { each = omega arith; in_range = c.set_point_heights.ensures.in_range }) in
    subst (λ (hs : List ℤ). IsSettled survey hs work.state.flows.items) (sym is) settled
