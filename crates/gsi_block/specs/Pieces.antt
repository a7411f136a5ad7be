use Rattle.std.specs.Prelude.{ℕ, ◌&&◌, Bool, List, [], ◌++◌, map, if◌then◌else◌, slice_index, take, drop}
use Rattle.gsi_block.specs.Limits.{max_kept}
use Rattle.gsi_block.specs.Lines.{is_line_feed, lines_of}

-- the part of a line that is kept: its first 1,601 bytes
abbrev pub cut_line : List ℕ → List ℕ
cut_line line = take max_kept line

-- some lines, each cut to the part that is kept
abbrev pub cut_lines : List (List ℕ) → List (List ℕ)
cut_lines lines = map cut_line lines

-- The state between two pieces of a text: the kept part of the last line that has begun, whether that line is
-- complete, and whether the last byte was a CR. After a CR, an LF that comes next ends no second line.
pub record LineState : Type 0 where
  pub line : List ℕ
  pub complete : Bool
  pub after_return : Bool

-- bytes without a leading LF that belongs to the CR before them
abbrev pub behind_return : Bool → List ℕ → List ℕ
behind_return after_return bytes = if after_return && is_line_feed (slice_index bytes 0) then drop 1 bytes else bytes

-- the line that has begun and is not complete; no bytes if there is none
abbrev pub begun : LineState → List ℕ
begun lines = if lines.complete then [] else lines.line

-- the text after the lines that were returned, if these bytes come next
abbrev pub text_left : LineState → List ℕ → List ℕ
text_left lines later = begun lines ++ behind_return lines.after_return later

-- the lines that must still be returned, if these bytes come next and nothing after them
abbrev pub lines_due : LineState → List ℕ → List (List ℕ)
lines_due lines later = cut_lines (lines_of (text_left lines later))
