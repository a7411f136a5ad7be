-- Lengths in metres with four digits behind the dot, and small ones in millimetres.
use Rattle.std.specs.Prelude.{ℕ, ℤ, ◌+◌, ◌/◌, ◌%◌, ◌==◌, Bool, false, ◌&&◌, List, [], ◌++◌, codes, decimal, if◌then◌else◌, nat_lt, not, unsigned_abs}
use Rattle.std.specs.Int.{is_negative, is_positive}
use Rattle.th_units.specs.Metres.{last_digits}

-- a size in units of 10 nm, in tenths of a millimetre, rounded to the nearest, halves up
abbrev pub tenths : ℕ → ℕ
tenths size = (size / 5000 + 1) / 2

-- tenths of a millimetre, in metres
unfoldable pub tenths_text : ℕ → List ℕ
tenths_text count = decimal (count / 10000) ++ codes "." ++ last_digits 4 (count % 10000)

-- a sign, unless the length is rounded to zero
abbrev pub sign_text : Bool → List ℕ → ℕ → List ℕ
sign_text has sign count = if has && nat_lt 0 count then sign else []

-- a size in units of 10 nm, which is that of a length below zero or not
unfoldable pub sized_text : Bool → ℕ → List ℕ
sized_text negative size = sign_text negative (codes "-") (tenths size) ++ tenths_text (tenths size)

-- a length in units of 10 nm
abbrev pub height_text : ℤ → List ℕ
height_text length = sized_text (is_negative length) (unsigned_abs length)

-- a length with a sign also where it is above zero
unfoldable pub signed_text : ℤ → List ℕ
signed_text length = sign_text (is_positive length) (codes "+") (tenths (unsigned_abs length)) ++ height_text length

-- whether both or neither of two lengths are below zero, and whether they moreover are rounded to the same size
abbrev pub same_side : ℤ → ℤ → Bool
same_side low high = if is_negative low then is_negative high else not (is_negative high)

abbrev pub look_alike : ℤ → ℤ → Bool
look_alike low high = tenths (unsigned_abs low) == tenths (unsigned_abs high) && same_side low high

-- the lengths from one to another, which is left out if it looks like the first
abbrev pub up_to : ℤ → ℤ → List ℕ
up_to low high = if look_alike low high then [] else codes " to " ++ height_text high

unfoldable pub span_text : ℤ → ℤ → List ℕ
span_text low high = height_text low ++ up_to low high

-- tenths of a millimetre, in millimetres
unfoldable pub millimetres_text : ℕ → List ℕ
millimetres_text count = decimal (count / 10) ++ codes "." ++ decimal (count % 10) ++ codes " mm"

-- a size in units of 10 nm: in millimetres if it is below a metre, else in metres
unfoldable pub metres_text : ℕ → List ℕ
metres_text size = sized_text false size ++ codes " m"

abbrev pub size_text : ℕ → List ℕ
size_text size = if nat_lt (tenths size) 10000 then millimetres_text (tenths size) else metres_text size
