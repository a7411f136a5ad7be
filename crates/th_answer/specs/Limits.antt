-- Of how many benchmarks it is said what the others say.
use Rattle.std.specs.Prelude.{ℕ, ◌/◌, max, min}

-- the most benchmarks
abbrev pub most_benchmarks : ℕ
most_benchmarks = 100

-- the most benchmarks times the square of the observations
abbrev pub most_asked : ℕ
most_asked = 1600000000

-- how many benchmarks at most, the first of the table, in a survey of so many observations
abbrev pub asked_benchmarks : ℕ → ℕ
asked_benchmarks observations = min most_benchmarks (most_asked / max 1 observations / max 1 observations)
