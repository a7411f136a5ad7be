use Rattle.std.proofs.Common.{arith}
use Rattle.th_circulation.proofs.GraphLemmas.{flows_long}
use Rattle.th_circulation.proofs.workspaces.Workspace.start_from.Goals as goal

pub copy_from_slice-requires : goal.copy_from_slice-requires
copy_from_slice-requires g c =
    let graph = c.args.graph.now in
    let before = flows_long graph.weights.now c.args.self.now.state.flows.items c.requires.rested.flow.bounded in
    let flow = c.in_ok-is_flow.ensures c.if-not-branch.false in
    let own = flows_long graph.weights.now c.args.start.flows.now flow.bounded in
    let full = c.args.self.now.state.flows.ok in
    omega arith
