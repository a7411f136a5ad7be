use Rattle.std.proofs.Common.{ℕ, ◌≤◌, Bool, true, false, pos, replicate, ap, sym, ◌∙◌, subst, arith}
use Rattle.std.specs.Prelude.{Result, Ok, Err}
use Rattle.th_circulation.specs.Inside.Flows.{IsFlow}
use Rattle.th_circulation.specs.Inside.Workspaces.{others_in}
use Rattle.th_circulation.proofs.GraphLemmas.{flows_long}
use Rattle.th_circulation.proofs.PhaseStarts.{none_flows, weights_small}
use Rattle.th_circulation.proofs.workspaces.Workspace.settle.Goals as goal

-- at most one call names no cycle
others_few : {E : Type 0} (result : Result Bool E) → others_in result ≤ 1
others_few (Ok true) = omega arith
others_few (Ok false) = omega arith
others_few (Err refused) = omega arith

pub ask_again-requires-clause-calls : goal.ask_again-requires-clause-calls
ask_again-requires-clause-calls g c =
    let graph = c.args.graph.now in
    let small = weights_small graph.vertices graph.links.now graph.weights.now graph.graph in
    let few = c.settle_at_once.ensures.few in
    let calls = c.settle_at_once.ensures.counts.few_calls in
    let others = others_few c.settle_at_once.result in
    omega arith

pub settle_by_halves-requires-clause-none : goal.settle_by_halves-requires-clause-none
settle_by_halves-requires-clause-none g c =
    let graph = c.args.graph.now in
    let flow = c.in_ok-settle_at_once.ensures.rested.flow in
    let long = flows_long graph.weights.now c.settle_at_once.new.self.state.flows.items flow.bounded in
    let sized = flow.sized in
    let full = c.settle_at_once.new.self.state.flows.ok in
    c.fill.ensures.items (λ y e. e) ∙ ap (λ (n : ℕ). replicate n (pos 0)) (omega arith)

pub settle_by_halves-requires-clause-rested : goal.settle_by_halves-requires-clause-rested
settle_by_halves-requires-clause-rested g c =
    let graph = c.args.graph.now in
    let rested = c.in_ok-settle_at_once.ensures.rested in
    record {
      differences = rested.differences;
      heights = rested.heights;
      flow = subst (IsFlow graph.links.now graph.weights.now) (sym (settle_by_halves-requires-clause-none g c)) (none_flows graph.links.now graph.weights.now graph.graph.sized);
      fits = rested.fits;
    }

pub settle_by_halves-requires-clause-calls : goal.settle_by_halves-requires-clause-calls
settle_by_halves-requires-clause-calls g c =
    let graph = c.args.graph.now in
    let small = weights_small graph.vertices graph.links.now graph.weights.now graph.graph in
    let few = c.settle_at_once.ensures.few in
    let calls = c.settle_at_once.ensures.counts.few_calls in
    let others = others_few c.settle_at_once.result in
    omega arith

pub settle_by_halves-requires-clause-steps : goal.settle_by_halves-requires-clause-steps
settle_by_halves-requires-clause-steps g c =
    let graph = c.args.graph.now in
    let small = weights_small graph.vertices graph.links.now graph.weights.now graph.graph in
    let few = c.settle_at_once.ensures.few in
    omega arith

pub ask_again-requires-clause-potentials : goal.ask_again-requires-clause-potentials
ask_again-requires-clause-potentials g c =
    let is = (c.in_ok-settle_at_once.ensures.done c.if-branch.false).shown.answered in
    (is.potentials, is.feasible)
