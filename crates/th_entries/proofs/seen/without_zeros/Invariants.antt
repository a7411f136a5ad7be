use Rattle.std.proofs.Common.{◌≡◌, ◌≤◌, length}
use Rattle.th_entries.specs.Spellings.{without_zeros}
use Rattle.th_entries.proofs.seen.without_zeros.Given as goal

abbrev pub invariant-loop-left : goal.invariant-loop-left
invariant-loop-left l = (without_zeros l.left ≡ without_zeros l.bytes) × (length l.left ≤ length l.bytes)

abbrev pub decreases-loop-left : goal.decreases-loop-left
decreases-loop-left l = length l.left
