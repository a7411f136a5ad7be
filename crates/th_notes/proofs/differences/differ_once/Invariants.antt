use Rattle.std.proofs.Common.{◌≡◌, ◌≤◌, drop, length}
use Rattle.th_notes.specs.Twins.{differ_once}
use Rattle.th_notes.proofs.differences.differ_once.Given as goal

abbrev pub invariant-loop-k : goal.invariant-loop-k
invariant-loop-k l = (l.k ≤ length l.other) × (differ_once (drop l.k l.text) (drop l.k l.other) ≡ differ_once l.text l.other)
