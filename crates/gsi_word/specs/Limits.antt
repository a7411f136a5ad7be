use Rattle.std.specs.Prelude.{ℕ}

-- the most bytes that a name has
abbrev pub max_name : ℕ
max_name = 16

-- the most bytes that a word has, with the space that closes it
abbrev pub max_word : ℕ
max_word = 24
