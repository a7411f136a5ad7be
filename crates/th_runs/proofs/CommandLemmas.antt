-- What the reader of reviews knows when a command makes its texts.
use Rattle.std.proofs.Common.{◌++◌, ◌≤◌, ℕ, List, [], arith, length, refl, subst}
use Rattle.std.specs.List.{All, Contains}
use Rattle.th_book.specs.Lines.{ParsedLine}
use Rattle.th_entries.specs.Listed.{IsListed}
use Rattle.th_entries.specs.Seen.{AreSeenInBooks}
use Rattle.th_entries.specs.Several.{AreObserved, entries_of_books, numbered}
use Rattle.th_entries.specs.Spellings.{spellings_of}
use Rattle.th_entries.specs.Stations.{HasOneStation}
use Rattle.th_entries.specs.declared.entries.Entry.{Entry}
use Rattle.th_entries.specs.declared.listed.Listed.{Listed}
use Rattle.th_entries.specs.declared.reviews.BookReview.{BookReview}
use Rattle.th_entries.specs.declared.spellings.Spelling.{Spelling}
use Rattle.th_inputs.specs.declared.sums.Sum.{Sum}
use Rattle.th_limits.specs.Limits.{max_books}
use Rattle.th_observations.specs.Observed.{Observed}
use Rattle.th_review_rows.specs.Entries.{entries_of}
use Rattle.th_run_parts.specs.Summed.{Tolds}
use Rattle.th_runs.specs.Commands.{HasRead}
use Rattle.th_runs.specs.Inside.Readers.{IsReviewedNext}
use Rattle.th_runs.specs.Reviewed.{AreReadFrom, AreReviewsOfBooks, IsNewReader}
use Rattle.th_runs.specs.declared.reviews.ReviewReader.{ReviewReader}
use Rattle.th_runs.proofs.ReviewLemmas.{AreAllRead, all_read, all_stationed, as_many, reviews_of_all, reviews_of_books}

-- the reader has read all books
abbrev pub HasReviewed : Tolds → List Observed → ReviewReader → List Sum → Type 0
HasReviewed =
    HasRead (λ number told observations (old new : ReviewReader). IsReviewedNext number told observations old.reviews.items new.reviews.items old.names new.names old.sums.items new.sums.items) IsNewReader

all_reviewed : (tolds : Tolds) (observations : List Observed) (reader : ReviewReader) (of_tables : List Sum) (read : HasReviewed tolds observations reader of_tables)
    → AreAllRead 1 tolds.books [] observations [] reader.reviews.items read.first.names reader.names [] reader.sums.items
all_reviewed tolds observations reader of_tables read =
    subst (λ (old : List BookReview). AreAllRead 1 tolds.books [] observations old reader.reviews.items read.first.names reader.names [] reader.sums.items) read.new.reviews
    (subst (λ (old : List Sum). AreAllRead 1 tolds.books [] observations read.first.reviews.items reader.reviews.items read.first.names reader.names old reader.sums.items) read.new.sums
    (all_read (λ (own : ReviewReader). own.reviews.items) (λ (own : ReviewReader). own.names) (λ (own : ReviewReader). own.sums.items) 1 tolds.books [] observations read.first reader read.read))

-- so it has few reviews
pub few_reviewed : (tolds : Tolds) (observations : List Observed) (reader : ReviewReader) (of_tables : List Sum) → HasReviewed tolds observations reader of_tables
    → length reader.reviews.items ≤ max_books
few_reviewed tolds observations reader of_tables read =
    omega (arith, read.few, as_many 1 tolds.books observations reader.reviews.items read.first.names reader.names [] reader.sums.items (all_reviewed tolds observations reader of_tables read))

-- and the sights of an entry are from one station
pub stationed_reviewed : (tolds : Tolds) (observations : List Observed) (reader : ReviewReader) (of_tables : List Sum) → HasReviewed tolds observations reader of_tables
    → ((own : ℕ) (texts : List (List ℕ)) (observations : List Observed) (entry : Entry) → AreObserved own [] texts observations
    → Contains (entries_of_books (numbered own texts)) entry → HasOneStation observations entry)
    → All (HasOneStation observations) (entries_of reader.reviews.items)
stationed_reviewed tolds observations reader of_tables read =
    all_stationed 1 tolds.books observations reader.reviews.items read.first.names reader.names [] reader.sums.items (all_reviewed tolds observations reader of_tables read)

-- the reviews are those of the books
pub books_reviewed : (tolds : Tolds) (observations : List Observed) (reader : ReviewReader) (of_tables : List Sum) → HasReviewed tolds observations reader of_tables
    → AreReviewsOfBooks tolds.books reader.reviews.items
books_reviewed tolds observations reader of_tables read =
    reviews_of_books tolds.books observations reader.reviews.items read.first.names reader.names [] reader.sums.items (all_reviewed tolds observations reader of_tables read)

-- and all that was read is known
pub read_reviewed : (tolds : Tolds) (observations : List Observed) (reader : ReviewReader) (of_tables : List Sum) (found : Listed Spelling) → HasReviewed tolds observations reader of_tables
    → ((books : List (ℕ × List ParsedLine)) → AreSeenInBooks books reader.names → IsListed (spellings_of books) found)
    → AreReadFrom tolds reader.reviews.items found (reader.sums.items ++ of_tables)
read_reviewed tolds observations reader of_tables found read finds = record {
  of_books = reader.sums.items;
  of_tables = of_tables;
  books = reviews_of_all 1 tolds.books observations reader.reviews.items read.first.names reader.names reader.sums.items found (all_reviewed tolds observations reader of_tables read) read.new.names finds;
  tables = read.tables;
  all = refl;
}
