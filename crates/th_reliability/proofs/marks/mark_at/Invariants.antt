use Rattle.std.proofs.Common.{◌≡◌, ◌==◌, map}
use Rattle.std.specs.List.{range_with_len}
use Rattle.th_reliability.proofs.marks.mark_at.Given as goal

abbrev pub invariant-loop-i : goal.invariant-loop-i
invariant-loop-i l = l.marks.items ≡ map (λ k. k == l.place) (range_with_len 0 l.i)
