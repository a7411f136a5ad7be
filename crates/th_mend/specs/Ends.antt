-- The lines of a text with their ends: CR LF, CR or LF, or nothing at the end of the text.
use Rattle.std.specs.Prelude.{ℕ, ◌&&◌, List, [], ◌∷◌, if◌then◌else◌, slice_index}
use Rattle.gsi_block.specs.Lines.{is_carriage_return, is_end_byte, is_line_feed}

-- a line and its end
abbrev pub Ended : Type 0
Ended = List ℕ × List ℕ

-- some lines with a byte in front of the end of the first, which is empty
abbrev pub onto_end : ℕ → List Ended → List Ended
onto_end byte [] = ([], byte ∷ []) ∷ []
onto_end byte (line ∷ lines) = (line.0, byte ∷ line.1) ∷ lines

-- some lines with a byte in front of the first one, or as the only line, without an end, if there are none
abbrev pub onto_line : ℕ → List Ended → List Ended
onto_line byte [] = (byte ∷ [], []) ∷ []
onto_line byte (line ∷ lines) = (byte ∷ line.0, line.1) ∷ lines

-- The lines of a text, each with its end, as `lines_of` of `gsi_block` gives them without.
unfoldable pub ended_lines : List ℕ → List Ended
ended_lines [] = []
ended_lines (byte ∷ bytes) =
    if is_carriage_return byte && is_line_feed (slice_index bytes 0) then onto_end byte (ended_lines bytes)
    else (if is_end_byte byte then ([], byte ∷ []) ∷ ended_lines bytes
    else onto_line byte (ended_lines bytes))
