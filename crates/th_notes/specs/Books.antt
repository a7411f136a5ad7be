use Rattle.std.specs.Prelude.{List, map}
use Rattle.th_entries.specs.declared.counts.BookCount.{BookCount}
use Rattle.th_entries.specs.declared.reviews.BookReview.{BookReview}

-- the numbers of lines, blocks, setups and sights of each book
abbrev pub counts_of_books : List BookReview → List BookCount
counts_of_books reviews = map (λ review. review.counts) reviews
