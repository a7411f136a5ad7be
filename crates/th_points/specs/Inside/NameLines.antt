-- Names as the lines of a text, from which each name can be read back.
use Rattle.std.specs.Prelude.{ℕ, List, [], ◌∷◌, ◌++◌}

-- a name and a line feed
abbrev pub name_line : List ℕ → List ℕ
name_line name = name ++ 10 ∷ []
