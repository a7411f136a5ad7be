use Rattle.std.specs.Prelude.{ℕ}

-- the most things of a kind that a review lists
abbrev pub max_listed : ℕ
max_listed = 1000

-- the most setups and sights whose names a review compares
abbrev pub max_mentions : ℕ
max_mentions = 200000
