use Rattle.std.proofs.Common.{length}
use Rattle.tests_books.proofs.lines.bytes_in_lines.Given as goal

abbrev pub decreases-loop-line : goal.decreases-loop-line
decreases-loop-line l = length l.cursor
