use Rattle.std.proofs.Common.{◌≡◌, ◌≤◌, ◌+◌, ◌*◌, ◌++◌, drop, take}
use Rattle.std.specs.List.{enumerate_from, flat_map}
use Rattle.th_notes.specs.Findings.{book_lines, count_of_lines, lines_of}
use Rattle.th_notes.proofs.books.add_line_notes.Given as goal

abbrev pub invariant-loop-k : goal.invariant-loop-k
invariant-loop-k l =
    (l.found.items ++ flat_map (λ book. book_lines l.kind book.0 (lines_of l.kind book.1)) (enumerate_from (l.k + 1) (drop l.k l.reviews)) ≡ flat_map (λ book. book_lines l.kind book.0 (lines_of l.kind book.1)) (enumerate_from 1 l.reviews))
    × (l.count ≡ count_of_lines l.kind (take l.k l.reviews)) × (l.count ≤ l.k * 4294967295)
