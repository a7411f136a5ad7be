use Rattle.std.proofs.Common.{◌≡◌, ◌≤◌, ◌+◌, ◌-◌, ◌*◌, pos, ◌+ℤ◌, ◌-ℤ◌, sum, unsigned_abs}
use Rattle.th_circulation.specs.Inside.Flows.{gain}
use Rattle.th_circulation.specs.Inside.Workspaces.{GoesOn, IsReady}
use Rattle.th_circulation.proofs.workspaces.Workspace.settle_phase.Given as goal

abbrev pub invariant-cycles : goal.invariant-cycles
invariant-cycles g l = record {
  ready : IsReady l.graph l.self;
  goes_on : GoesOn l.graph l.fn.self l.self (l.steps - l.fn.steps);
  more : l.fn.steps ≤ l.steps;
  calls : g.S.Search.calls l.search + l.fn.steps ≡ g.S.Search.calls l.fn.search + l.steps;
  refusals : g.S.Search.refusals l.search ≡ g.S.Search.refusals l.fn.search;
  cycles : g.S.Search.cycles l.search + l.fn.steps ≡ g.S.Search.cycles l.fn.search + l.steps;
}

abbrev pub decreases-cycles : goal.decreases-cycles
decreases-cycles g l = unsigned_abs ((gain l.fn.self.state.flows.items l.fn.self.state.differences.items +ℤ pos (2 * sum l.graph.weights.now)) -ℤ gain l.self.state.flows.items l.fn.self.state.differences.items)
