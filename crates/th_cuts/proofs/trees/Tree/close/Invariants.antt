use Rattle.std.proofs.Common.{◌≡◌, ◌-◌, length}
use Rattle.th_cuts.proofs.trees.Tree.close.Given as goal

abbrev pub invariant-closing : goal.invariant-closing
invariant-closing l = l.self.flow.now ≡ l.fn.self.flow.now

abbrev pub decreases-closing : goal.decreases-closing
decreases-closing l = l.self.flow.now.drain.graph.now.vertices - length l.self.steps.items
