use Rattle.th_cuts.proofs.CutTreeLemmas.{least_is}
use Rattle.th_cuts.proofs.branches.Branches.least.Goals as goal

pub returns : goal.returns
returns c = least_is c.args.self.now.graph.vertices c.args.self.now.graph.edges.items c.args.first c.args.second c.in_ok-cut.cut c.in_ok-cut.ensures
