use Rattle.std.proofs.Common.{arith}
use Rattle.std.proofs.lemmas.Int.{ints}
use Rattle.th_circulation.proofs.GraphLemmas.{near_at}
use Rattle.th_circulation.proofs.graphs.LinkGraph.residual.Goals as goal

pub overflow_sub-result : goal.overflow_sub-result
overflow_sub-result c =
    let near = near_at c.args.self.now.vertices c.args.self.now.links.now c.args.self.now.weights.now c.args.heights.now c.args.differences.now c.args.slot c.args.self.now.graph c.requires.heights c.requires.differences c.requires.place in
    omega (arith, ints)

pub returns-clause-residual : goal.returns-clause-residual
returns-clause-residual c =
    let near = near_at c.args.self.now.vertices c.args.self.now.links.now c.args.self.now.weights.now c.args.heights.now c.args.differences.now c.args.slot c.args.self.now.graph c.requires.heights c.requires.differences c.requires.place in
    omega (arith, ints)

pub returns-clause-small : goal.returns-clause-small
returns-clause-small c =
    let near = near_at c.args.self.now.vertices c.args.self.now.links.now c.args.self.now.weights.now c.args.heights.now c.args.differences.now c.args.slot c.args.self.now.graph c.requires.heights c.requires.differences c.requires.place in
    omega (arith, ints)
