use Rattle.std.proofs.Common.{◌≡◌, ◌≤◌, ◌+◌, length}
use Rattle.std.specs.List.{prefix_len}
use Rattle.gsi_block.specs.Lines.{is_in_line}
use Rattle.gsi_block.proofs.ends.line_len.Given as goal

abbrev pub invariant-loop-rest : goal.invariant-loop-rest
invariant-loop-rest l =
    (length l.rest ≤ length l.text)
    × (prefix_len is_in_line l.text + length l.rest ≡ length l.text + prefix_len is_in_line l.rest)

abbrev pub decreases-loop-rest : goal.decreases-loop-rest
decreases-loop-rest l = length l.rest
