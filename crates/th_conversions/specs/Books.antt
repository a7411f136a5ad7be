-- The book of rows: a setup where the station changes, and a sight for each row.
use Rattle.std.specs.Prelude.{◌≡◌, ℕ, ℤ, ◌+◌, ◌/◌, Bool, false, List, [], ◌∷◌, codes, if◌then◌else◌, length, map, nat_lt, pos, Option, Some, None, unsigned_abs, Result, Ok, Err}
use Rattle.std.specs.Int.{is_negative}
use Rattle.std.specs.List.{flat_map}
use Rattle.th_units.specs.Metres.{last_digits}
use Rattle.gsi_word.specs.Indexes.{height_difference, instrument_height, reflector_height, station_easting}
use Rattle.gsi_word.specs.Names.{same_name}
use Rattle.gsi_word.specs.Words.{Parts, parts}
use Rattle.gsi_word.specs.declared.words.Width.TheVariants.{Sixteen}
use Rattle.gsi_block.specs.Blocks.{BlockParts}
use Rattle.gsi_block.specs.Writing.{block_text}
use Rattle.th_observations.specs.Observed.{Observed}
use Rattle.th_report.specs.Gsi.{number_word}
use Rattle.th_conversions.specs.Limits.{hundredth, max_book}
use Rattle.th_conversions.specs.Tables.{rows_of, too_long}
use Rattle.th_conversions.specs.declared.faults.DifferenceFault.{DifferenceFault}
use Rattle.th_conversions.specs.declared.rows.Row.{Row}

-- the word of a length in 1/100 mm: calculated (mode 4), unit 8, and 16 digits
abbrev pub length_word : ℕ → ℤ → Parts
length_word index length = parts index (codes "..48") (is_negative length) (last_digits 16 (unsigned_abs length / hundredth))

-- the word of an easting of zero, which marks a setup: calculated, in millimetres
abbrev pub zero_easting : Parts
zero_easting = parts station_easting (codes "..40") false (last_digits 16 0)

-- the block of a setup: its number in the book and its station, an easting of zero, and heights of zero
abbrev pub setup_block : ℕ → List ℕ → BlockParts
setup_block number station = record {
  width = Sixteen;
  words = number_word number station ∷ zero_easting ∷ length_word reflector_height (pos 0) ∷ length_word instrument_height (pos 0) ∷ [];
}

-- the block of a sight: its number in the book and the row's target, and the row's difference
abbrev pub sight_block : ℕ → Row → BlockParts
sight_block number row = record {
  width = Sixteen;
  words = number_word number row.to ∷ length_word height_difference row.difference ∷ [];
}

-- the running setup, if there is one, is that of this station
abbrev pub stands_at : Option (List ℕ) → List ℕ → Bool
stands_at None station = false
stands_at (Some running) station = same_name running station

-- the blocks of rows behind a running setup; blocks are numbered from this number
abbrev pub blocks_from : Option (List ℕ) → ℕ → List Row → List BlockParts
blocks_from running number [] = []
blocks_from running number (row ∷ rows) =
    if stands_at running row.from
    then sight_block number row ∷ blocks_from running (number + 1) rows
    else setup_block number row.from ∷ sight_block (number + 1) row ∷ blocks_from (Some row.from) (number + 2) rows

-- the text of the book of rows: a line for each block, numbered from 1
abbrev pub book_text : List Row → List ℕ
book_text rows = flat_map block_text (blocks_from None 1 rows)

-- a book, unless it is longer than a book may be
abbrev pub if_short : List ℕ → Result (List ℕ) DifferenceFault
if_short text = if nat_lt max_book (length text) then Err too_long else Ok text

-- the book of rows that were read
abbrev pub book_if_read : Result (List Row) DifferenceFault → Result (List ℕ) DifferenceFault
book_if_read (Err fault) = Err fault
book_if_read (Ok rows) = if_short (book_text rows)

-- the book of a table, or the table's first fault
abbrev pub book_of_table : List ℕ → Result (List ℕ) DifferenceFault
book_of_table bytes = book_if_read (rows_of bytes)

-- an observation as a row
abbrev pub row_seen : Observed → Row
row_seen observed = record { from = observed.station; to = observed.target; difference = observed.difference }

-- the result of a book is observations of exactly these rows, in order
abbrev pub AreSeenAs : {E : Type 0} → Result (List Observed) E → List Row → Type 0
AreSeenAs (Ok observations) rows = map row_seen observations ≡ rows
AreSeenAs (Err fault) rows = ⊥
