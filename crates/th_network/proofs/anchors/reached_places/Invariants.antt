use Rattle.std.proofs.Common.{◌+◌, length}
use Rattle.th_network.specs.Inside.Marks.{unmarked_count}
use Rattle.th_network.proofs.AnchorLemmas.{IsReaching}
use Rattle.th_network.proofs.anchors.reached_places.Given as goal

abbrev pub invariant-loop-place : goal.invariant-loop-place
invariant-loop-place l = IsReaching l.heights l.ends l.marks.marked.items l.marks.waiting.items

abbrev pub decreases-loop-place : goal.decreases-loop-place
decreases-loop-place l = unmarked_count l.marks.marked.items + length l.marks.waiting.items
