-- How many lines a book has of each kind.
use Rattle.std.specs.Prelude.{ℕ, Bool, true, false, List, Some, None, Ok, Err, length}
use Rattle.th_book.specs.Lines.{ParsedLine, is_setup, is_sight}
use Rattle.th_book.specs.Places.{line_at, words_at}
use Rattle.th_entries.specs.Below.{count_below}
use Rattle.th_entries.specs.declared.counts.BookCount.{BookCount}

-- a line that is a block
abbrev pub is_block : ParsedLine → Bool
is_block (Ok (Some block)) = true
is_block (Ok None) = false
is_block (Err fault) = false

-- the numbers of lines, blocks, setups and sights before place `n`
abbrev pub counts_below : List ParsedLine → ℕ → BookCount
counts_below parsed n = record {
  lines = n;
  blocks = count_below (λ place. is_block (line_at parsed place)) n;
  setups = count_below (λ place. is_setup (words_at parsed place)) n;
  sights = count_below (λ place. is_sight (words_at parsed place)) n;
}

-- those of all lines
abbrev pub counts_of : List ParsedLine → BookCount
counts_of parsed = counts_below parsed (length parsed)
