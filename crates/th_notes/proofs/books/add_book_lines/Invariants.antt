use Rattle.std.proofs.Common.{◌≡◌, ◌++◌, drop, map}
use Rattle.th_notes.specs.declared.notes.Note.TheVariants.{Line}
use Rattle.th_notes.specs.Findings.{book_lines}
use Rattle.th_notes.proofs.books.add_book_lines.Given as goal

abbrev pub invariant-loop-line : goal.invariant-loop-line
invariant-loop-line l = l.notes.items ++ map (λ line. Line l.kind l.book line) (drop l.line-index l.lines.first.items) ≡ l.fn.notes.items ++ book_lines l.kind l.book l.lines
