-- Which observations have an end at a place.
use Rattle.std.specs.Prelude.{ℕ, ◌==◌, ◌||◌, Bool}

-- one of two places is the given one
abbrev pub is_at : ℕ → ℕ × ℕ → Bool
is_at place ends = ends.0 == place || ends.1 == place
