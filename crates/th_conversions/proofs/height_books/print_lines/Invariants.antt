use Rattle.std.proofs.Common.{◌≤◌, ◌+◌, ◌++◌, None, length}
use Rattle.std.specs.List.{flat_map}
use Rattle.gsi_block.specs.Lines.{due, lines_of}
use Rattle.th_book.specs.Limits.{max_book}
use Rattle.th_conversions.specs.Printed.{ended, printed_from}
use Rattle.th_conversions.proofs.HeightBookLemmas.{Makes}
use Rattle.th_conversions.proofs.height_books.print_lines.Given as goal

abbrev pub invariant-lines : goal.invariant-lines
invariant-lines l =
    Makes l.text.items (printed_from l.running l.count (due l.cursor)) (l.initial.text.items ++ flat_map ended (printed_from None 0 (lines_of l.bytes)).0) (printed_from None 0 (lines_of l.bytes)).1
    × (l.count + length l.cursor ≤ max_book)

abbrev pub decreases-lines : goal.decreases-lines
decreases-lines l = length l.cursor
