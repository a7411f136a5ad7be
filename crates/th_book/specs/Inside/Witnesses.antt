-- How a witness sees the lines of a piece.
use Rattle.std.specs.Prelude.{◌≡◌, ◌≤◌, ℕ, suc, List, None, ◌++◌, length}
use Rattle.gsi_block.specs.Blocks.{block_at}
use Rattle.gsi_block.specs.Pieces.{LineState}
use Rattle.th_book.specs.Limits.{max_book}
use Rattle.th_book.specs.Lines.{ParsedLine}
use Rattle.th_book.specs.Places.{line_at}
use Rattle.th_book.specs.Faults.{first_fault}
use Rattle.th_book.specs.Due.{BookState}
use Rattle.th_book.specs.Witnesses.{IsPlace, IsSeenTo, Keeps}

-- the next line of a book without a fault was taken and seen
abbrev pub IsSeenNext : {S W : Type 0} → (S → ℕ → List ParsedLine → ℕ → W → Type 0) → BookState → BookState → List ℕ → W → W → Type 0
IsSeenNext {S} has_seen old new line before after =
    (start : S) (number : ℕ) (parsed : List ParsedLine) (place : ℕ) → IsPlace parsed place → line_at parsed place ≡ block_at line →
    Keeps number parsed place old → has_seen start number parsed place before → Keeps number parsed (suc place) new × has_seen start number parsed (suc place) after

-- any book without a fault that was read and seen up to `piece` is now read and seen up to `rest`, whatever bytes follow
abbrev pub AreSeen : {S W : Type 0} → (S → ℕ → List ParsedLine → ℕ → W → Type 0) → BookState → LineState → List ℕ → W → BookState → LineState → List ℕ → W → Type 0
AreSeen {S} has_seen old_book old_lines piece before book lines rest after =
    (start : S) (number : ℕ) (parsed : List ParsedLine) (later : List ℕ) → first_fault parsed ≡ None → length parsed ≤ max_book →
    IsSeenTo has_seen start number parsed old_book old_lines (piece ++ later) before → IsSeenTo has_seen start number parsed book lines (rest ++ later) after
