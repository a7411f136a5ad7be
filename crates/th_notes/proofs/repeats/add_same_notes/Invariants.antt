use Rattle.std.proofs.Common.{◌≡◌, ◌+◌, ◌++◌, drop, length, map}
use Rattle.std.specs.List.{enumerate_from, filter_map}
use Rattle.th_notes.specs.Books.{counts_of_books}
use Rattle.th_notes.specs.Findings.{same_note, same_notes}
use Rattle.th_notes.specs.Repeats.{by_book}
use Rattle.th_notes.proofs.repeats.add_same_notes.Given as goal

abbrev pub invariant-loop-k : goal.invariant-loop-k
invariant-loop-k l = record {
  counted : length l.earlier.items ≡ l.k;
  before : map (λ book. book.items) l.earlier.items ≡ by_book l.observations l.k;
  noted : l.notes.items ++ filter_map (same_note l.observations) (enumerate_from (l.k + 1) (drop l.k (counts_of_books l.reviews))) ≡ l.fn.notes.items ++ same_notes l.observations (counts_of_books l.reviews);
}
