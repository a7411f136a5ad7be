use Rattle.std.specs.Prelude.{ℕ}

-- the most books that a review takes
abbrev pub max_reviewed : ℕ
max_reviewed = 1000
