-- What is known of a book that was read.
use Rattle.std.specs.Prelude.{ℕ, List, length}
use Rattle.th_book.specs.Books.{IsFaultless, parsed_of}
use Rattle.th_mend.specs.declared.changes.Change.{Change}
use Rattle.th_mend.specs.Inside.Forces.{IsLocating}
use Rattle.th_mend.specs.declared.sought.Locating.{Locating}

-- the book has no fault, and all of its lines were seen for these changes
pub record IsRead (changes : List Change) (bytes : List ℕ) (locating : Locating) : Type 0 where
  pub faultless : IsFaultless 1 bytes
  pub seen : IsLocating changes 1 (parsed_of bytes) (length (parsed_of bytes)) locating
