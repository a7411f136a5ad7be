use Rattle.std.proofs.Common.{length, reverse}
use Rattle.th_search.specs.Inside.Entries.{cut_at, depth_within}
use Rattle.th_search.proofs.CycleLemmas.{IsClosing}
use Rattle.th_search.proofs.labels.Labels.cycle_through.Given as goal

abbrev pub invariant-loop-vertex : goal.invariant-loop-vertex
invariant-loop-vertex l = IsClosing l.arcs l.self.values.items l.self.entries.items l.start l.vertex (reverse l.cycle.items)

abbrev pub decreases-loop-vertex : goal.decreases-loop-vertex
decreases-loop-vertex l = depth_within l.arcs (cut_at l.self.entries.items l.start) (length l.self.values.items) l.vertex
