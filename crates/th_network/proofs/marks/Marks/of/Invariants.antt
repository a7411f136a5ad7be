use Rattle.std.proofs.Common.{take}
use Rattle.th_network.specs.Inside.Marks.{IsSeeded}
use Rattle.th_network.proofs.marks.Marks.of.Given as goal

abbrev pub invariant-loop-place : goal.invariant-loop-place
invariant-loop-place l = IsSeeded (take l.place l.heights) l.marked.items l.waiting.items
