use Rattle.std.specs.Prelude.{ℕ, ℤ, pos, Bool, List, Option, Some, None, if◌then◌else◌, int_lt, unsigned_abs}
use Rattle.std.specs.List.{count_by, enumerate_from, filter_map}
use Rattle.th_network.specs.Networks.{Survey}
use Rattle.th_blunders.specs.Residuals.{residuals}

-- whether the size of a residual is above a limit
abbrev pub is_blunder : ℤ → ℤ → Bool
is_blunder limit residual = int_lt limit (pos (unsigned_abs residual))

-- the number of a residual, if it is a blunder
abbrev pub blunder_number : ℤ → ℕ × ℤ → Option ℕ
blunder_number limit numbered = if is_blunder limit numbered.1 then Some numbered.0 else None

-- the numbers of the blunders among some residuals, counted from 1
abbrev pub blunders : ℤ → List ℤ → List ℕ
blunders limit residuals = filter_map (blunder_number limit) (enumerate_from 1 residuals)

-- how many observations of the survey are blunders at these heights, for this limit in units of 10 nm
abbrev pub blunders_at : ℤ → Survey → (List ℕ → ℤ) → ℕ
blunders_at limit survey heights = count_by (is_blunder limit) (residuals survey.observations heights)
