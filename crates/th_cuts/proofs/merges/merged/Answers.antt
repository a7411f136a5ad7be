use Rattle.std.proofs.Common.{arith}
use Rattle.th_cuts.proofs.MergeLemmas.{merged_more, weight_left}
use Rattle.th_cuts.proofs.merges.merged.Goals as goal

pub add-requires : goal.add-requires
add-requires c =
    let left = weight_left c.args.edges.now c.loop-edge.merging.edges.items c.loop-edge.edge-index c.loop-edge-test.true c.loop-edge.invariant in
    let light = c.requires in
    omega arith

pub loop-edge-preserved : goal.loop-edge-preserved
loop-edge-preserved c = merged_more c.args.edges.now c.loop-edge.merging.edges.items c.add.new.self.edges.items c.loop-edge.edge-index c.loop-edge-test.true c.loop-edge.invariant c.in_ok-add.ensures
