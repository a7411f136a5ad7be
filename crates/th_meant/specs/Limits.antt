use Rattle.std.specs.Prelude.{ℕ}

-- the most heights that are named as meant
abbrev pub max_named : ℕ
max_named = 3

-- how many digits people see of a height that has fewer
abbrev pub least_digits : ℕ
least_digits = 4
