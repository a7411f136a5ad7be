-- How a book takes the lines of a piece.
use Rattle.std.specs.Prelude.{◌≡◌, ◌≤◌, ℕ, ◌+◌, List, ◌∷◌, ◌++◌, length}
use Rattle.gsi_block.specs.Pieces.{LineState, lines_due}
use Rattle.th_book.specs.Due.{BookState, due}

-- a line was taken: what was due with it in front is due now, and at most this line was counted
pub record IsGiven (old new : BookState) (line : List ℕ) : Type 0 where
  pub keeps : (rest : List (List ℕ)) → due new rest ≡ due old (line ∷ rest)
  pub counted : new.lines ≤ old.lines + 1

-- a piece was taken: what was due with it in front is due now, and the lines counted and still due are no more than before
pub record AreTaken (old_book : BookState) (old_lines : LineState) (book : BookState) (lines : LineState) (piece : List ℕ) : Type 0 where
  pub keeps : (later : List ℕ) → due book (lines_due lines later) ≡ due old_book (lines_due old_lines (piece ++ later))
  pub counted : (later : List ℕ) → book.lines + length (lines_due lines later) ≤ old_book.lines + length (lines_due old_lines (piece ++ later))
