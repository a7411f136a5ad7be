use Rattle.std.proofs.Common.{◌≡◌, ◌+◌, ◌++◌, drop}
use Rattle.std.specs.List.{enumerate_from, flat_map}
use Rattle.th_notes.specs.Books.{counts_of_books}
use Rattle.th_review_texts.specs.Reviews.{book_line}
use Rattle.th_review_texts.proofs.book_tables.write_rows.Given as goal

abbrev pub invariant-loop-k : goal.invariant-loop-k
invariant-loop-k l =
    l.page ++ flat_map book_line (enumerate_from (l.k + 1) (counts_of_books (drop l.k l.reviews))) ≡ l.fn.page ++ flat_map book_line (enumerate_from 1 (counts_of_books l.reviews))
