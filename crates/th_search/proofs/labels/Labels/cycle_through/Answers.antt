use Rattle.std.proofs.Common.{length, ◌<◌, arith}
use Rattle.th_search.proofs.DepthLemmas.{cut_falls}
use Rattle.th_search.proofs.MeetsLemmas.{entry_read}
use Rattle.th_search.proofs.CycleLemmas.{closing_first, closing_next, reverse_push}
use Rattle.th_search.proofs.labels.Labels.cycle_through.Goals as goal

pub loop-vertex-init : goal.loop-vertex-init
loop-vertex-init c =
    let size = c.requires.labels.entered.size in
    let at = entry_read c.args.self.now.entries.items c.args.start _ _ (omega arith) c.index.ensures c.in-Some.is in
    rw c.in_ok-cycle.ensures.items (closing_first _ _ _ _ _ c.requires.arcs c.requires.labels at c.requires.cycle)

pub loop-vertex-smaller : goal.loop-vertex-smaller
loop-vertex-smaller c =
    let size = c.requires.labels.entered.size in
    let inside : c.args.start < length c.args.self.now.entries.items = omega arith in
    let within = c.loop-vertex.invariant.within in
    let at = entry_read c.args.self.now.entries.items c.loop-vertex.vertex _ _ (omega arith) c.index-in-loop-vertex.ensures c.in-Some-index.is in
    cut_falls _ _ _ _ _ _ c.requires.arcs c.requires.labels.entered inside within c.loop-vertex-test.true at c.loop-vertex.invariant.meets

pub loop-vertex-preserved : goal.loop-vertex-preserved
loop-vertex-preserved c =
    let size = c.requires.labels.entered.size in
    let inside : c.args.start < length c.args.self.now.entries.items = omega arith in
    let within = c.loop-vertex.invariant.within in
    let at = entry_read c.args.self.now.entries.items c.loop-vertex.vertex _ _ (omega arith) c.index-in-loop-vertex.ensures c.in-Some-index.is in
    rw (c.in_ok-push.ensures.items, reverse_push) (closing_next _ _ _ _ _ _ _ c.requires.arcs c.requires.labels inside c.loop-vertex-test.true at c.loop-vertex.invariant)
