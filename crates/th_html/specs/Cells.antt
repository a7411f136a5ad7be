-- The cells of a table's row: `td` for numbers, `th` for texts.
use Rattle.std.specs.Prelude.{ℕ, ℤ, List, Option, None, Some, ◌++◌, codes, decimal}
use Rattle.th_html.specs.Lengths.{height_text, signed_text}
use Rattle.th_html.specs.Places.{place_text}
use Rattle.th_html.specs.Texts.{escaped}

abbrev pub number_cell : ℕ → List ℕ
number_cell number = codes "<td>" ++ decimal number

-- a number that may be missing
abbrev pub optional_cell : Option ℕ → List ℕ
optional_cell None = codes "<td>"
optional_cell (Some number) = number_cell number

abbrev pub height_cell : ℤ → List ℕ
height_cell length = codes "<td>" ++ height_text length

-- a length that may be missing
abbrev pub optional_height_cell : Option ℤ → List ℕ
optional_height_cell None = codes "<td>"
optional_height_cell (Some length) = height_cell length

abbrev pub signed_cell : ℤ → List ℕ
signed_cell length = codes "<td>" ++ signed_text length

abbrev pub place_cell : ℕ → ℕ → List ℕ
place_cell book line = codes "<td>" ++ place_text book line

-- a name, which is escaped
abbrev pub name_cell : List ℕ → List ℕ
name_cell name = codes "<th>" ++ escaped name

-- words, which may have markup
abbrev pub words_cell : List ℕ → List ℕ
words_cell words = codes "<th>" ++ words
