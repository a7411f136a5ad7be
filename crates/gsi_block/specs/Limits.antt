use Rattle.std.specs.Prelude.{ℕ, ◌+◌}

-- the most bytes that a line of a book has, without its end
abbrev pub max_line : ℕ
max_line = 1600

-- the most words that a block has
abbrev pub max_words : ℕ
max_words = 64

-- the most bytes that are kept of a line that comes in pieces: one more than a line may have, so that a line that is too long is detected
abbrev pub max_kept : ℕ
max_kept = max_line + 1
