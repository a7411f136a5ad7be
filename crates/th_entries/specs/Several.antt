-- Several books, numbered consecutively.
use Rattle.std.specs.Prelude.{◌≡◌, ℕ, ◌+◌, List, [], ◌∷◌, ◌++◌, Ok, flat_map}
use Rattle.th_observations.specs.Observed.{Observed}
use Rattle.th_book.specs.Lines.{ParsedLine}
use Rattle.th_book.specs.Books.{book_answer}
use Rattle.th_entries.specs.Entries.{entries_of}
use Rattle.th_entries.specs.Reviews.{parsed_of}
use Rattle.th_entries.specs.declared.entries.Entry.{Entry}

-- the books with these texts, numbered from `number` on: each number with the book's parsed lines
abbrev pub numbered : ℕ → List (List ℕ) → List (ℕ × List ParsedLine)
numbered number [] = []
numbered number (text ∷ texts) = (number, parsed_of text) ∷ numbered (number + 1) texts

-- none of the books with these texts, numbered from `number` on, has a fault, and `all` are the observations `before` followed by theirs
abbrev pub AreObserved : ℕ → List Observed → List (List ℕ) → List Observed → Type 0
AreObserved number before [] all = all ≡ before
AreObserved number before (text ∷ texts) all =
    (own : List Observed) × (book_answer number text ≡ Ok own) × AreObserved (number + 1) (before ++ own) texts all

-- the entries of books, in their order
abbrev pub entries_of_books : List (ℕ × List ParsedLine) → List Entry
entries_of_books books = flat_map (λ book. entries_of book.0 book.1) books
