-- Where points and heights are in the picture, in tenths of a pixel.
use Rattle.std.specs.Prelude.{ℕ, ℤ, ◌+◌, ◌-◌, ◌*◌, ◌/◌, ◌%◌, Bool, List, [], ◌∷◌, find, fold, if◌then◌else◌, max, min, nat_lt, unsigned_abs, unwrap_or}
use Rattle.std.specs.Int.{is_negative}
use Rattle.th_picture.specs.declared.drawn.DrawnPoint.{DrawnPoint}
use Rattle.th_picture.specs.declared.scales.Scale.{Scale}

-- the middle of strip k of n, which stand from left to right; k counts from 0
abbrev pub x_of : ℕ → ℕ → ℕ
x_of k n = 900 + min (7000 * (2 * k + 1) / max (2 * n) 1) 7000

-- a raised height moved by a length
abbrev pub moved : ℕ → ℤ → ℕ
moved from by = if is_negative by then from - unsigned_abs by else from + unsigned_abs by

-- what heights are raised by, so that none is below zero: 10^18 units, a multiple of each step
abbrev pub raise : ℕ
raise = 1000000000000000000

abbrev pub raised : ℤ → ℕ
raised height = moved raise height

-- the steps of a scale, in units of 10 nm: 1, 2 and 5 mm and their multiples by powers of ten
abbrev pub steps : List ℕ
steps =
    100000 ∷ 200000 ∷ 500000 ∷ 1000000 ∷ 2000000 ∷ 5000000 ∷ 10000000 ∷ 20000000 ∷ 50000000 ∷ 100000000 ∷ 200000000 ∷ 500000000
    ∷ 1000000000 ∷ 2000000000 ∷ 5000000000 ∷ 10000000000 ∷ 20000000000 ∷ 50000000000 ∷ 100000000000 ∷ 200000000000 ∷ 500000000000
    ∷ 1000000000000 ∷ 2000000000000 ∷ 5000000000000 ∷ 10000000000000 ∷ 20000000000000 ∷ 50000000000000 ∷ 100000000000000 ∷ 200000000000000 ∷ 500000000000000
    ∷ 1000000000000000 ∷ 2000000000000000 ∷ 5000000000000000 ∷ 10000000000000000 ∷ 20000000000000000 ∷ 50000000000000000 ∷ []

-- whether fewer than eight steps cover a spread
abbrev pub covers : ℕ → ℕ → Bool
covers spread step = nat_lt (spread / 8) step

-- the first step of which fewer than eight cover a spread
abbrev pub step_of : ℕ → ℕ
step_of spread = unwrap_or (find (covers spread) steps) 50000000000000000

-- the least and the greatest of the raised heights at which points are drawn
abbrev pub lower : ℕ → DrawnPoint → ℕ
lower least point = min least (raised point.height)

abbrev pub higher : ℕ → DrawnPoint → ℕ
higher greatest point = max greatest (raised point.height)

abbrev pub least_of : List DrawnPoint → ℕ
least_of [] = raise
least_of (point ∷ points) = fold lower (raised point.height) points

abbrev pub greatest_of : List DrawnPoint → ℕ
greatest_of [] = raise
greatest_of (point ∷ points) = fold higher (raised point.height) points

-- the scale between two raised heights: its lowest line is at or below the least, its last but one at or below the greatest
abbrev pub scale_between : ℕ → ℕ → ℕ → Scale
scale_between least greatest step = record { low = least - least % step; top = greatest - greatest % step; step = step }

abbrev pub scale_of : List DrawnPoint → Scale
scale_of points = scale_between (least_of points) (greatest_of points) (step_of (greatest_of points - least_of points))

-- the highest line of a scale
abbrev pub high_of : Scale → ℕ
high_of scale = scale.top + scale.step

-- how far apart two raised heights are drawn, of which the second is higher; 3000 from the lowest line to the highest
abbrev pub apart : Scale → ℕ → ℕ → ℕ
apart scale at other = 3000 * (other - at) / max (high_of scale - scale.low) 1

-- where a raised height is: at most 100 beyond the lines if the scale does not reach it
abbrev pub y_of : Scale → ℕ → ℕ
y_of scale at = 400 + min (apart scale at (high_of scale)) 3100 - min (apart scale (high_of scale) at) 100

-- where a height is
abbrev pub height_y : Scale → ℤ → ℕ
height_y scale height = y_of scale (raised height)

-- the lines that a scale may have: those above its highest line are left out
abbrev pub lines_of : Scale → List ℕ
lines_of scale =
    scale.low ∷ (scale.low + scale.step) ∷ (scale.low + 2 * scale.step) ∷ (scale.low + 3 * scale.step) ∷ (scale.low + 4 * scale.step)
    ∷ (scale.low + 5 * scale.step) ∷ (scale.low + 6 * scale.step) ∷ (scale.low + 7 * scale.step) ∷ (scale.low + 8 * scale.step) ∷ (scale.low + 9 * scale.step) ∷ []
