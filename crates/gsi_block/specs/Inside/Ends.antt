-- Definitions shared by the functions that look for line ends.
use Rattle.std.specs.Prelude.{ℕ, ◌&&◌, not, Bool, List, [], ◌∷◌, if◌then◌else◌, slice_index}
use Rattle.gsi_block.specs.Lines.{is_carriage_return, is_line_feed}

-- the length of the line end at the front: 2 for CR LF, 1 for any other, 0 if there are no bytes
abbrev pub end_len : List ℕ → ℕ
end_len [] = 0
end_len (byte ∷ bytes) = if is_carriage_return byte && is_line_feed (slice_index bytes 0) then 2 else 1

-- the line end at the front is a CR without an LF
abbrev pub is_lone_return : List ℕ → Bool
is_lone_return end = is_carriage_return (slice_index end 0) && not (is_line_feed (slice_index end 1))

-- how many bytes at the front belong to the line end before them: 1 for an LF if that end was a CR, else 0
abbrev pub feed_len : Bool → List ℕ → ℕ
feed_len after_return bytes = if after_return && is_line_feed (slice_index bytes 0) then 1 else 0
