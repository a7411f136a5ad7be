use Rattle.std.specs.Prelude.{ℕ, ℤ, pos, neg_ℤ, ◌*◌, ◌&&◌, Bool, List, length, Option, Some, None, Result, Ok, Err, if◌then◌else◌, nat_le, nat_lt}
use Rattle.std.specs.List.{list_all}
use Rattle.std.specs.Str.Parse.{digits_value}
use Rattle.th_units.specs.Limits.{max_len}
use Rattle.th_units.specs.Units.{step}
use Rattle.th_units.specs.declared.units.Unit.{Unit}
use Rattle.th_units.specs.declared.faults.LenFault.{LenFault}
use Rattle.th_units.specs.declared.faults.LenFault.TheVariants.{NotDigits, TooLarge}

-- one of the characters '0' to '9'
abbrev pub is_digit : ℕ → Bool
is_digit byte = nat_le 48 byte && nat_le byte 57

-- at least one byte, and each a digit
abbrev pub are_digits : List ℕ → Bool
are_digits bytes = nat_lt 0 (length bytes) && list_all is_digit bytes

-- the number that decimal digits write, the most significant first; leading zeros are allowed
abbrev pub number : List ℕ → ℕ
number digits = digits_value 10 digits

-- the number that one to nine digits write, leading zeros included in the nine; none for any other bytes
abbrev pub short_number : List ℕ → Option ℕ
short_number bytes = if are_digits bytes && nat_le (length bytes) 9 then Some (number bytes) else None

-- a size with its sign: minus zero is zero
abbrev pub signed : Bool → ℕ → ℤ
signed negative size = if negative then neg_ℤ (pos size) else pos size

-- The length that a sign and digits write in a unit: sign times number times step. First the bytes
-- must be digits; then the size, not the count of digits, must be at most `max_len`.
abbrev pub length_of : Bool → List ℕ → Unit → Result ℤ LenFault
length_of negative digits unit =
    if are_digits digits
    then (if nat_le (number digits * step unit) max_len then Ok (signed negative (number digits * step unit)) else Err TooLarge)
    else Err NotDigits
