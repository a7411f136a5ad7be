use Rattle.std.proofs.Common.{◌≤◌}
use Rattle.tests_books.proofs.lines.given_lines.Given as goal

abbrev pub invariant-loop-place : goal.invariant-loop-place
invariant-loop-place l = l.begun ≤ l.place
