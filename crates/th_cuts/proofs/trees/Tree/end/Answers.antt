use Rattle.std.proofs.Common.{ℕ, ◌<◌, length, arith}
use Rattle.th_cuts.proofs.TreeLemmas.{used_of_steps}
use Rattle.th_cuts.proofs.trees.Tree.end.Goals as goal

pub returns-clause-none : goal.returns-clause-none
returns-clause-none c none =
    let tree = c.args.self.now in
    let flow = tree.flow.now in
    let drain = flow.drain in
    used_of_steps drain.graph.now.vertices drain.graph.now.edges.items flow.flows.items drain.source flow.left.items tree.steps.items tree.places.items tree.tree (λ (k : ℕ) (h : k < length tree.steps.items). c.loop-place.invariant k (let all = c.loop-place-test.false in let len = c.len-place-end.ensures in omega arith))
