use Rattle.std.proofs.Common.{◌≡◌, length}
use Rattle.gsi_word.specs.Names.{without_leading}
use Rattle.gsi_word.proofs.names.without_leading.Given as goal

abbrev pub invariant-loop-left : goal.invariant-loop-left
invariant-loop-left l = without_leading l.left ≡ without_leading l.bytes

abbrev pub decreases-loop-left : goal.decreases-loop-left
decreases-loop-left l = length l.left
