use Rattle.std.specs.Prelude.{ℕ, List, bytes_eq}
use Rattle.std.specs.List.{position_or_len}

-- the place of a name in a list, counted from 0, or the list's length if it is not there
abbrev pub place_of : List (List ℕ) → List ℕ → ℕ
place_of names name = position_or_len (bytes_eq name) names
