use Rattle.std.proofs.Common.{length}
use Rattle.th_run_parts.proofs.books.+read_books.Given as goal

abbrev pub decreases-read_books : goal.decreases-read_books
decreases-read_books g l = length l.books.now
