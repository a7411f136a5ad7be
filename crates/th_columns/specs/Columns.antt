-- The columns of a printed table.
use Rattle.std.specs.Prelude.{ℕ, ◌-◌, List, [], ◌∷◌, ◌++◌, length, replicate}

-- a text padded with spaces after it to a width in bytes; a longer text is printed whole
unfoldable pub left_in : ℕ → List ℕ → List ℕ
left_in width text = text ++ replicate (width - length text) 32

-- a text padded with spaces before it to a width in bytes; a longer text is printed whole
unfoldable pub right_in : ℕ → List ℕ → List ℕ
right_in width text = replicate (width - length text) 32 ++ text

-- the two spaces between neighbouring columns
abbrev pub gap : List ℕ
gap = 32 ∷ 32 ∷ []

-- the end of a line
abbrev pub line_end : List ℕ
line_end = 10 ∷ []

-- the width of the widest column, in bytes
abbrev pub widest : ℕ
widest = 26
