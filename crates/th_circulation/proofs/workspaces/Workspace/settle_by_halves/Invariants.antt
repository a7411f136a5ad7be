use Rattle.std.proofs.Common.{◌≡◌, ◌<◌, ◌≤◌, ◌+◌, ◌-◌, ◌*◌, length, sum, replicate, pos}
use Rattle.th_circulation.specs.Inside.Phases.{differences_in}
use Rattle.th_circulation.specs.Inside.Workspaces.{AreShownFor, IsNear, IsRested}
use Rattle.th_circulation.specs.Limits.{phases}
use Rattle.th_circulation.proofs.workspaces.Workspace.settle_by_halves.Given as goal

abbrev pub invariant-phases : goal.invariant-phases
invariant-phases g l = record {
  rested : IsRested l.graph l.self;
  near : l.done < phases → IsNear l.graph.links.now l.graph.weights.now (differences_in (phases - 1 - l.done) l.graph.links.now) l.self.state.flows.items;
  none : l.done ≡ 0 → l.self.state.flows.items ≡ replicate (length l.graph.links.now) (pos 0);
  shown : 0 < l.done → AreShownFor l.graph (differences_in (phases - l.done) l.graph.links.now) l.self (g.S.Search.asked l.search);
  more : l.fn.steps ≤ l.steps;
  few : l.steps ≤ l.fn.steps + 2 * sum l.graph.weights.now * l.done;
  fewer : 0 < l.done → l.steps + sum l.graph.weights.now ≤ l.fn.steps + 2 * sum l.graph.weights.now * l.done;
  calls : g.S.Search.calls l.search + l.fn.steps ≡ g.S.Search.calls l.fn.search + l.steps + l.done;
  refusals : g.S.Search.refusals l.search ≡ g.S.Search.refusals l.fn.search;
  cycles : g.S.Search.cycles l.search + l.fn.steps ≡ g.S.Search.cycles l.fn.search + l.steps;
}
