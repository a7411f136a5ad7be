-- Coordinates and lines in the text of a picture.
use Rattle.std.specs.Prelude.{ℕ, ◌+◌, List, ◌++◌, codes, decimal}

-- what stands before a point of a path, and its coordinates
unfoldable pub pair_text : List ℕ → ℕ → ℕ → List ℕ
pair_text before x y = before ++ decimal x ++ codes " " ++ decimal y

-- a line across and the beginning of its label
unfoldable pub line_open : ℕ → List ℕ
line_open y = codes "<path class=\"l\" d=\"M900 " ++ decimal y ++ codes "H7900\"/><text x=\"840\" y=\"" ++ decimal (y + 35) ++ codes "\">"

-- the end of the label
unfoldable pub label_end : List ℕ
label_end = codes "</text>\n"
