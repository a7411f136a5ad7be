use Rattle.std.proofs.Common.{◌≡◌, map, take}
use Rattle.th_reliability.specs.Inside.Ends.{is_at}
use Rattle.th_reliability.proofs.benchmarks.marks_at.Given as goal

abbrev pub invariant-loop-own : goal.invariant-loop-own
invariant-loop-own l = l.marks.items ≡ map (is_at l.place) (take l.own-index l.ends)
