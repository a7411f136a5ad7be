use Rattle.std.specs.Prelude.{◌≡◌, ◌≢◌, ℕ, ◌==◌, ◌&&◌, ◌||◌, ◌⊎◌, not, Bool, IsTrue, List, [], ◌∷◌, ◌++◌, if◌then◌else◌, slice_index, Option, Some, None}
use Rattle.std.specs.List.{list_all}
use Rattle.std.specs.Borrow.{Bor}

-- CR
abbrev pub is_carriage_return : ℕ → Bool
is_carriage_return byte = byte == 13

-- LF
abbrev pub is_line_feed : ℕ → Bool
is_line_feed byte = byte == 10

-- LF or CR, the bytes of line ends
abbrev pub is_end_byte : ℕ → Bool
is_end_byte byte = is_line_feed byte || is_carriage_return byte

-- some lines with a byte put in front of the first one, or as the only line if there are none
abbrev pub onto_first : ℕ → List (List ℕ) → List (List ℕ)
onto_first byte [] = (byte ∷ []) ∷ []
onto_first byte (line ∷ lines) = (byte ∷ line) ∷ lines

-- The lines of a text, without their ends. CR LF, CR and LF end a line: a CR directly before an LF is no end by itself, and LF CR are two ends. If bytes
-- follow the last end, they are a line too; an empty text has no lines. No other byte is an end, and no byte of a line is dropped. (`slice_index` beyond a
-- list is 0, which is not LF, so a CR at the end of the text ends a line.)
unfoldable pub lines_of : List ℕ → List (List ℕ)
lines_of [] = []
lines_of (byte ∷ bytes) =
    if is_carriage_return byte && is_line_feed (slice_index bytes 0) then lines_of bytes
    else (if is_end_byte byte then [] ∷ lines_of bytes
    else onto_first byte (lines_of bytes))

-- what a cursor must still return: the lines of the bytes that are left
abbrev pub due : List ℕ → List (List ℕ)
due rest = lines_of rest

-- The first line that was due is returned and the rest is due now; or none was due and none is.
abbrev pub GivesNext : Option (Bor (List ℕ)) → List (List ℕ) → List (List ℕ) → Type 0
GivesNext None before after = (before ≡ []) × (after ≡ [])
GivesNext (Some line) before after = before ≡ line.now ∷ after

-- a byte of a line: neither CR nor LF
abbrev pub is_in_line : ℕ → Bool
is_in_line byte = not (is_end_byte byte)

-- the bytes `end` end a line that `rest` follows: CR LF, LF, or a CR that no LF follows, including a CR at the end of the text
abbrev pub EndsLine : List ℕ → List ℕ → Type 0
EndsLine end rest =
    (end ≡ 13 ∷ 10 ∷ []) ⊎ ((end ≡ 10 ∷ []) ⊎ ((end ≡ 13 ∷ []) × (slice_index rest 0 ≢ 10)))

-- The text consists of these lines, each followed by its end. Only the last line may lack an end,
-- if nothing follows it and it is not empty. No line contains a CR or an LF.
abbrev pub AreLines : List (List ℕ) → List ℕ → Type 0
AreLines [] text = text ≡ []
AreLines (line ∷ lines) text =
    IsTrue (list_all is_in_line line)
    × ((end : List ℕ) × (rest : List ℕ) × (text ≡ line ++ end ++ rest) × AreLines lines rest
    × (EndsLine end rest ⊎ ((end ≡ []) × (rest ≡ []) × (line ≢ []))))
