-- The end of a line at the front of bytes.
use Rattle.std.specs.Prelude.{ℕ, ◌&&◌, List, [], ◌∷◌, if◌then◌else◌, slice_index}
use Rattle.gsi_block.specs.Lines.{is_carriage_return, is_line_feed}

-- the length of the line end at the front: 2 for CR LF, 1 for any other, 0 if there are no bytes
abbrev pub end_len : List ℕ → ℕ
end_len [] = 0
end_len (byte ∷ bytes) = if is_carriage_return byte && is_line_feed (slice_index bytes 0) then 2 else 1
