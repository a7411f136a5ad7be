use Rattle.std.proofs.Common.{◌≡◌, ◌≤◌, ◌+◌}
use Rattle.th_circulation.specs.Inside.Phases.{differences_in}
use Rattle.th_circulation.specs.Inside.Workspaces.{IsReady}
use Rattle.th_circulation.proofs.workspaces.Workspace.settle_at_once.Given as goal

abbrev pub invariant-steps : goal.invariant-steps
invariant-steps g l = record {
  ready : IsReady l.graph l.self;
  differences : l.self.state.differences.items ≡ differences_in 0 l.graph.links.now;
  more : l.fn.steps ≤ l.steps;
  few : l.steps ≤ l.fn.steps + l.done;
  calls : g.S.Search.calls l.search + l.fn.steps ≡ g.S.Search.calls l.fn.search + l.steps;
  refusals : g.S.Search.refusals l.search ≡ g.S.Search.refusals l.fn.search;
  cycles : g.S.Search.cycles l.search + l.fn.steps ≡ g.S.Search.cycles l.fn.search + l.steps;
}
