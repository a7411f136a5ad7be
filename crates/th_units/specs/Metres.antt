use Rattle.std.specs.Prelude.{ℕ, ℤ, zero, suc, ◌+◌, ◌-◌, ◌*◌, ◌/◌, ◌%◌, ◌^◌, ◌==◌, ◌&&◌, ◌||◌, not, Bool, true, List, [], ◌∷◌, ◌++◌, length, position, slice_index, drop, Option, Some, None, is_some, unwrap_or, nat_le, nat_lt, Result, Ok, Err, if◌then◌else◌, decimal, unsigned_abs}
use Rattle.std.specs.Int.{is_negative}
use Rattle.std.specs.List.{before_first, after_first}
use Rattle.std.specs.Option.{option_map_or}
use Rattle.std.specs.Result.{result_map_both}
use Rattle.th_units.specs.Lengths.{are_digits, number, signed}
use Rattle.th_units.specs.declared.faults.LenFault.{LenFault}
use Rattle.th_units.specs.declared.faults.LenFault.TheVariants.{NotDigits, TooLarge}

-- the last `count` decimal digits of a number, with leading zeros if it has fewer
unfoldable pub last_digits : ℕ → ℕ → List ℕ
last_digits zero n = []
last_digits (suc count) n = last_digits count (n / 10) ++ (48 + n % 10) ∷ []

-- a metre, in units of 10 nm
abbrev pub metre : ℕ
metre = 100000000

-- a size in metres: the whole metres without zeros in front, `0` below a metre, then a dot and eight decimals
abbrev pub size_in_metres : ℕ → List ℕ
size_in_metres size = decimal (size / metre) ++ 46 ∷ last_digits 8 (size % metre)

-- a length in metres, with a minus sign below zero and no sign otherwise
abbrev pub metres : ℤ → List ℕ
metres n = if is_negative n then 45 ∷ size_in_metres (unsigned_abs n) else size_in_metres (unsigned_abs n)

-- whether a text begins with a minus sign; an empty text does not
abbrev pub has_minus : List ℕ → Bool
has_minus text = slice_index text 0 == 45

-- whether a text begins with a plus or a minus sign
abbrev pub has_sign : List ℕ → Bool
has_sign text = (slice_index text 0 == 43) || has_minus text

-- a text without its leading sign, if it has one; a second sign is kept
abbrev pub without_sign : List ℕ → List ℕ
without_sign text = drop (if has_sign text then 1 else 0) text

abbrev pub is_dot : ℕ → Bool
is_dot byte = byte == 46

-- the bytes before the first dot, or the whole text if it has no dot
abbrev pub whole : List ℕ → List ℕ
whole text = before_first is_dot text

-- the bytes after the first dot, including any later dots; none if there is no dot
abbrev pub decimals : List ℕ → Option (List ℕ)
decimals text = if is_some (position is_dot text) then Some (after_first is_dot text) else None

-- one to eight digits
abbrev pub are_decimals : List ℕ → Bool
are_decimals bytes = are_digits bytes && nat_le (length bytes) 8

-- one or more digits, and, where there is a dot, one to eight digits after it
abbrev pub is_in_metres : List ℕ → Bool
is_in_metres text = are_digits (whole text) && option_map_or are_decimals (decimals text) true

-- the size, in units of 10 nm, of the digits before and after the dot: the single decimal `5` is half a metre
abbrev pub units_of : List ℕ → List ℕ → ℕ
units_of whole decimals = number whole * metre + number decimals * 10 ^ (8 - length decimals)

-- The size, in units of 10 nm, of a text in metres without a sign. A text of any other form is `NotDigits`.
-- Otherwise more than nine digits before the dot, leading zeros included, are `TooLarge`.
abbrev pub size_value : List ℕ → Result ℕ LenFault
size_value text =
    if not (is_in_metres text) then Err NotDigits
    else (if nat_lt 9 (length (whole text)) then Err TooLarge
    else Ok (units_of (whole text) (unwrap_or (decimals text) [])))

-- the length that a text in metres writes, in units of 10 nm: an optional sign and then a size; minus zero is zero
abbrev pub value : List ℕ → Result ℤ LenFault
value text = result_map_both (signed (has_minus text)) (λ fault. fault) (size_value (without_sign text))
