use Rattle.std.proofs.Common.{arith}
use Rattle.std.proofs.lemmas.Grind.{common_steps}
use Rattle.th_cuts.proofs.CutTreeLemmas.{branches_more}
use Rattle.th_cuts.proofs.branches.grow.Goals as goal

pub loop-vertex-preserved : goal.loop-vertex-preserved
loop-vertex-preserved g c = record {
  parents = grind (arith, common_steps);
  each = grind (arith, common_steps);
  few = grind (arith, common_steps);
  branches = branches_more c.args.graph.now.vertices c.args.graph.now.edges.items c.loop-vertex.branches.items c.push.new.self.items c.in_ok-branch.branch c.loop-vertex.vertex c.loop-vertex.invariant.branches c.loop-vertex.invariant.each c.in_ok-branch.ensures c.in_ok-push.ensures.items;
}
