-- Heights of a point in lists.
use Rattle.std.specs.Prelude.{ℕ, ℤ, pos, ◌==◌, Bool, List, [], ◌∷◌, Option, Some, None, if◌then◌else◌, map, slice_index_or}
use Rattle.std.specs.Int.{int_max, int_min}
use Rattle.std.specs.List.{list_any}
use Rattle.th_answer.specs.Moved.{is_moved, span_of}
use Rattle.th_answer.specs.declared.answers.Moved.{Moved}
use Rattle.th_answer.specs.declared.correcting.Readjusted.{Readjusted}

-- the height at a place of a list
abbrev pub height_in : ℕ → Readjusted → ℤ
height_in place own = slice_index_or own.heights.items place (pos 0)

-- the heights at this place of several lists
abbrev pub heights_in : List Readjusted → ℕ → List ℤ
heights_in corrected place = map (height_in place) corrected

-- whether the height at a place of a list differs from another one by more than the limit
abbrev pub is_moved_in : ℤ → ℤ → ℕ → Readjusted → Bool
is_moved_in limit from place own = is_moved limit from (height_in place own)

-- the least and the greatest height at a place, if one of them differs from another height by more than the limit
abbrev pub moved_in : ℤ → ℤ → ℕ → List Readjusted → Option Moved
moved_in limit from place corrected = if list_any (is_moved_in limit from place) corrected then span_of (heights_in corrected place) else None

-- the least and the greatest of some heights and one more
abbrev pub wider : Option Moved → ℤ → Option Moved
wider None height = Some (record { low = height; high = height })
wider (Some span) height = Some (record { low = int_min span.low height; high = int_max span.high height })

-- the heights with the row put right, if there is one row alone, and it can be; else the lowest best ones
abbrev pub drawn_heights : List ℤ → ℕ → List Readjusted → List ℤ
drawn_heights low rows (own ∷ []) = if rows == 1 then own.heights.items else low
drawn_heights low rows corrected = low
