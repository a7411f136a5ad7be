use Rattle.std.proofs.Common.{◌≡◌, ◌+◌, ◌++◌, drop}
use Rattle.std.specs.List.{enumerate_from, flat_map}
use Rattle.th_numbers.specs.Lists.{book_at, books_of}
use Rattle.th_numbers.proofs.books.books_of.Given as goal

abbrev pub invariant-loop-place : goal.invariant-loop-place
invariant-loop-place l = l.books.items ++ flat_map book_at (enumerate_from (l.place + 1) (drop l.place l.reviews)) ≡ books_of l.reviews
