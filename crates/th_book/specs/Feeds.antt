use Rattle.std.specs.Prelude.{◌≡◌, ◌≢◌, ◌<◌, ◌≤◌, ℕ, ◌+◌, List, [], ◌∷◌, ◌++◌, Option, Some, None, IfErr, IfOk, IfSome, Result, Err, Ok, Vec, if◌then◌else◌, length, nat_lt}
use Rattle.gsi_block.specs.Pieces.{LineState, lines_due}
use Rattle.th_observations.specs.Observed.{Observed}
use Rattle.th_book.specs.Books.{too_long}
use Rattle.th_book.specs.Limits.{max_book}
use Rattle.th_book.specs.Due.{BookState, EndsWithSight, due}
use Rattle.th_book.specs.declared.faults.BookFault.{BookFault}
use Rattle.th_book.specs.declared.faults.BookKind.TheVariants.{NoMemory}

-- The state of a `BookFeed`: the book of the complete lines, the state of the line that has begun, how many bytes came, and the
-- allocation failure that it met, if any. For a book that is too long, the number of bytes says only that they are too many.
pub record FeedState : Type 0 where
  pub book : BookState
  pub lines : LineState
  pub bytes : ℕ
  pub wanting : Option BookFault

-- What is still to come from a feed in this state, if these bytes follow and nothing after them: the observations of
-- the whole book, or its fault. A book that is too long is refused before anything else is checked.
abbrev pub feed_due : FeedState → List ℕ → Result (List Observed) BookFault
feed_due feed later =
    if nat_lt max_book (feed.bytes + length later) then Err too_long else due feed.book (lines_due feed.lines later)

-- a piece was taken: what was due with it in front is due now, whatever bytes follow, and no allocation failed
pub record IsFed (old new : FeedState) (piece : List ℕ) : Type 0 where
  pub keeps : (later : List ℕ) → feed_due new later ≡ feed_due old (piece ++ later)
  pub before : old.wanting ≡ None
  pub after : new.wanting ≡ None

-- An allocation failed for the observation of a line that ended in a piece, for which there was no capacity. What was due with
-- the front of the piece, up to the end of this line, is due from the book with this line and those after it.
pub record IsWantingIn (old_book : BookState) (old_lines : LineState) (book : BookState) (lines : LineState) (piece : List ℕ) (fault : BookFault) : Type 0 where
  pub line : List ℕ
  pub front : List ℕ
  pub rest : List ℕ
  pub cut : piece ≡ front ++ rest
  pub keeps : (later : List ℕ) → due book (line ∷ lines_due lines later) ≡ due old_book (lines_due old_lines (front ++ later))
  pub observes : EndsWithSight (due book (line ∷ [])) fault.line
  pub full : book.room ≤ length book.observations
  pub kind : fault.kind ≡ NoMemory

-- after an earlier allocation failure nothing changes; otherwise an allocation failed in this piece, and the failure is recorded
abbrev pub StopsUnless : Option BookFault → FeedState → FeedState → List ℕ → Type 0
StopsUnless (Some fault) old new piece = new ≡ old
StopsUnless None old new piece = (fault : BookFault) × IsWantingIn old.book old.lines new.book new.lines piece fault × (new.wanting ≡ Some fault)

abbrev pub StopsAt : FeedState → FeedState → List ℕ → Type 0
StopsAt old new piece = StopsUnless old.wanting old new piece

-- What a feed gives at its end: the observations or the fault of the whole book, where no allocation failed. One that failed
-- earlier is given back. Otherwise one fails only for the observation of a last line without an end, if there is no capacity left.
pub record IsFinished {A : Type 0} (feed : FeedState) (result : Result (Vec Observed A) BookFault) : Type 0 where
  pub ok : IfOk result (λ observations. feed_due feed [] ≡ Ok observations.items)
  pub fault : IfErr result (λ fault. fault.kind ≢ NoMemory → feed_due feed [] ≡ Err fault)
  pub lasting : IfSome feed.wanting (λ fault. result ≡ Err fault)
  pub too_long : feed.wanting ≡ None → max_book < feed.bytes → result ≡ Err too_long
  pub wanting : IfErr result (λ fault. fault.kind ≡ NoMemory → feed.wanting ≡ None → EndsWithSight (feed_due feed []) fault.line)
  pub full : IfErr result (λ fault. fault.kind ≡ NoMemory → feed.wanting ≡ None → feed.book.room ≤ length feed.book.observations)

-- What every feed keeps. Unless an allocation failed or the book is too long, the lines counted and
-- still due are at most as many as its bytes. A recorded failure is always `NoMemory`.
pub record IsWithin (feed : FeedState) : Type 0 where
  pub counted : feed.wanting ≡ None → feed.bytes ≤ max_book → (later : List ℕ) → feed.book.lines + length (lines_due feed.lines later) ≤ feed.bytes + length later
  pub lasting : IfSome feed.wanting (λ fault. fault.kind ≡ NoMemory)
