-- Heights of points that a number moves, once it is put right.
use Rattle.std.specs.Prelude.{ℕ, ℤ, ◌-ℤ◌, Bool, List, [], ◌∷◌, Option, Some, None, fold, if◌then◌else◌, map}
use Rattle.std.specs.Int.{int_max, int_min}
use Rattle.std.specs.List.{list_any}
use Rattle.th_blunders.specs.Blunders.{is_blunder}
use Rattle.th_answer.specs.Corrected.{Corrected}
use Rattle.th_answer.specs.declared.answers.Moved.{Moved}

-- the heights of a point with one row after another put right
abbrev pub heights_then : List Corrected → List ℕ → List ℤ
heights_then corrected point = map (λ after. after.heights point) corrected

-- the least and the greatest of some heights
abbrev pub span_of : List ℤ → Option Moved
span_of [] = None
span_of (height ∷ heights) = Some (record { low = fold int_min height heights; high = fold int_max height heights })

-- whether a height differs from another one by more than the limit
abbrev pub is_moved : ℤ → ℤ → ℤ → Bool
is_moved limit from to = is_blunder limit (to -ℤ from)

-- the least and the greatest height of a point, if one of the rows moves it by more than the limit
abbrev pub moved_among : ℤ → ℤ → List ℤ → Option Moved
moved_among limit from heights = if list_any (is_moved limit from) heights then span_of heights else None

abbrev pub moved_of : ℤ → (List ℕ → ℤ) → List Corrected → List ℕ → Option Moved
moved_of limit heights corrected point = moved_among limit (heights point) (heights_then corrected point)

-- the heights that a picture shows: those with the row put right, if there is one row alone, and it can be; else the lowest best ones
abbrev pub drawn_by : (List ℕ → ℤ) → List (Option Corrected) → List ℕ → ℤ
drawn_by heights (Some own ∷ []) = own.heights
drawn_by heights others = heights
