use Rattle.std.proofs.Common.{length}
use Rattle.th_messages.proofs.noting.+put_books.Given as goal

abbrev pub decreases-put_books : goal.decreases-put_books
decreases-put_books g l = length l.books.now
