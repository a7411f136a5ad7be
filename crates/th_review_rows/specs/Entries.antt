-- The entries of books, and their sights.
use Rattle.std.specs.Prelude.{List}
use Rattle.std.specs.List.{flat_map}
use Rattle.th_entries.specs.declared.entries.Entry.{Entry}
use Rattle.th_entries.specs.declared.reviews.BookReview.{BookReview}
use Rattle.th_reliability.specs.declared.sights.Sights.{Sights}

-- the entries of all books, in the order of books
abbrev pub entries_of : List BookReview → List Entry
entries_of reviews = flat_map (λ review. review.entries.items) reviews

-- the sights that use an entry: those of its book from its line to the line of the last one
abbrev pub sights_of : Entry → Sights
sights_of entry = record { book = entry.book; first = entry.line; last = entry.last }
