use Rattle.std.proofs.Common.{refl, arith}
use Rattle.th_circulation.proofs.PhaseStarts.{weights_small}
use Rattle.th_circulation.proofs.workspaces.Workspace.settle_at_once.Goals as goal

pub total-most-requires : goal.total-most-requires
total-most-requires g c =
    let graph = c.args.graph.now in
    let small = weights_small graph.vertices graph.links.now graph.weights.now graph.graph in
    omega arith

pub steps-init : goal.steps-init
steps-init g c = record {
  ready = c.start_phase.ensures.ready;
  differences = c.start_phase.ensures.differences;
  more = omega arith;
  few = omega arith;
  calls = refl;
  refusals = refl;
  cycles = refl;
}
