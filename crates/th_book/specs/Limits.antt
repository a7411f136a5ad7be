use Rattle.std.specs.Prelude.{ℕ}

-- the most bytes that a book has: 64 MiB
abbrev pub max_book : ℕ
max_book = 67108864
