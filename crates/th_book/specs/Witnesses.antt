-- What a witness sees of a book: its lines, one after the other, with the setup that runs before each.
use Rattle.std.specs.Prelude.{◌≡◌, ◌<◌, ◌≤◌, ℕ, List, Option, Some, None, Ok, filter, length, map, drop}
use Rattle.std.specs.List.{range_with_len}
use Rattle.gsi_word.specs.Words.{Parts}
use Rattle.gsi_block.specs.Blocks.{BlockParts, block_at}
use Rattle.gsi_block.specs.Pieces.{LineState, lines_due}
use Rattle.th_book.specs.Limits.{max_book}
use Rattle.th_book.specs.Lines.{ParsedLine, is_sight}
use Rattle.th_book.specs.Places.{line_at, setup_of, words_at}
use Rattle.th_book.specs.Faults.{first_fault}
use Rattle.th_book.specs.Books.{IsFaultless, book_answer, observed_at, parsed_of}
use Rattle.th_book.specs.Due.{BookState}
use Rattle.th_book.specs.Entered.{entered_by}
use Rattle.th_book.specs.Feeds.{FeedState, feed_due}
use Rattle.th_book.specs.Setups.{IsRunning}
use Rattle.th_book.specs.declared.entries.Entered.{Entered}
use Rattle.th_book.specs.declared.setups.Setup.{Setup}

-- a place of a book that has no fault, and no more lines than a book may have bytes
pub record IsPlace (parsed : List ParsedLine) (place : ℕ) : Type 0 where
  pub faultless : first_fault parsed ≡ None
  pub short : length parsed ≤ max_book
  pub within : place < length parsed

-- the line at a place is blank
pub record IsBlankAt (parsed : List ParsedLine) (place : ℕ) : Type 0 where
  pub here : IsPlace parsed place
  pub blank : line_at parsed place ≡ Ok None

-- the line at a place is a block of these words, which enter this in this running setup
pub record IsBlockAt (parsed : List ParsedLine) (place : ℕ) (running : Option Setup) (entered : Entered) (words : List Parts) : Type 0 where
  pub here : IsPlace parsed place
  pub block : BlockParts
  pub is : line_at parsed place ≡ Ok (Some block)
  pub says : words ≡ block.words
  pub enters : entered ≡ entered_by words
  pub runs : IsRunning parsed place (setup_of parsed place) running

-- a book holds, after so many of its lines, none of which has a fault, what they say
pub record Keeps (number : ℕ) (parsed : List ParsedLine) (place : ℕ) (state : BookState) : Type 0 where
  pub book : state.book ≡ number
  pub lines : state.lines ≡ place
  pub faultless : state.fault ≡ None
  pub setup : IsRunning parsed place (setup_of parsed place) state.setup
  pub observations : state.observations ≡ map (observed_at number parsed) (filter (λ k. is_sight (words_at parsed k)) (range_with_len 0 place))

-- a book was read up to a place: the other lines are still to come with the bytes that are left
pub record IsReadTo (number : ℕ) (parsed : List ParsedLine) (place : ℕ) (book : BookState) (lines : LineState) (rest : List ℕ) : Type 0 where
  pub within : place ≤ length parsed
  pub keeps : Keeps number parsed place book
  pub left : map block_at (lines_due lines rest) ≡ drop place parsed

-- and a witness has seen the lines before that place
pub record IsSeenTo {S W : Type 0} (has_seen : S → ℕ → List ParsedLine → ℕ → W → Type 0) (start : S) (number : ℕ) (parsed : List ParsedLine) (book : BookState) (lines : LineState) (rest : List ℕ) (witness : W) : Type 0 where
  pub place : ℕ
  pub read : IsReadTo number parsed place book lines rest
  pub seen : has_seen start number parsed place witness

-- a feed reads the book with this text, of which these bytes are left, and a witness has seen the lines that were read, unless
-- the book has a fault
pub record IsSeeing {S W : Type 0} (has_seen : S → ℕ → List ParsedLine → ℕ → W → Type 0) (start : S) (number : ℕ) (text rest : List ℕ) (feed : FeedState) (witness : W) : Type 0 where
  pub due : feed_due feed rest ≡ book_answer number text
  pub seen : IsFaultless number text → IsSeenTo has_seen start number (parsed_of text) feed.book feed.lines rest witness
