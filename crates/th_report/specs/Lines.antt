-- The lines of a text in columns.
use Rattle.std.specs.Prelude.{◌≡◌, ◌≢◌, ℕ, List, [], ◌∷◌, ◌++◌}

-- every line of a text ends with LF: the text has bytes, and the last of them is LF
abbrev pub EndsItsLines : List ℕ → Type 0
EndsItsLines text = (lines : List ℕ) × (text ≡ lines ++ 10 ∷ [])

-- no line of a text ends with a space: no LF directly follows one
abbrev pub HasNoSpaceAtEnd : List ℕ → Type 0
HasNoSpaceAtEnd text = (before after : List ℕ) → text ≢ before ++ 32 ∷ 10 ∷ after
