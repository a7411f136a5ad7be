use Rattle.std.proofs.Common.{length}
use Rattle.gsi_block.specs.Lines.{lines_of}
use Rattle.th_book.proofs.Reading.{IsReading}
use Rattle.th_book.proofs.books.read_book.Given as goal

abbrev pub invariant-lines : goal.invariant-lines
invariant-lines l = IsReading l.book (lines_of l.bytes) l.reader (lines_of l.cursor)

abbrev pub decreases-lines : goal.decreases-lines
decreases-lines l = length l.cursor
