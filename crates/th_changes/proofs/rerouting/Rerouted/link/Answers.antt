use Rattle.std.proofs.Common.{arith}
use Rattle.th_changes.proofs.ReroutedLemmas.{link_at}
use Rattle.th_changes.proofs.rerouting.Rerouted.link.Goals as goal

pub returns : goal.returns
returns c = link_at c.args.self.now.case.now.network.now c.arcs.result.now c.args.place _ c.arcs.ensures.arcs (let each = c.args.self.now.rerouted.each_flow.each in omega (arith, each, c.requires))
