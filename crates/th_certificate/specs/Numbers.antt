-- The numbers of a certificate. Leading zeros count as digits.
use Rattle.std.specs.Prelude.{ℕ, ℤ, ◌&&◌, ◌==◌, Bool, List, length, Result, Ok, Err, if◌then◌else◌, nat_le}
use Rattle.th_certificate.specs.Limits.{max_cost_digits, max_digits, max_flows}
use Rattle.th_units.specs.Lengths.{are_digits, number, signed}
use Rattle.th_units.specs.Metres.{has_minus, value, without_sign}
use Rattle.th_units.specs.declared.faults.LenFault.{LenFault}
use Rattle.th_units.specs.declared.faults.LenFault.TheVariants.{NotDigits, TooLarge as LongMetres}
use Rattle.th_certificate.specs.declared.faults.CertKind.{CertKind}
use Rattle.th_certificate.specs.declared.faults.CertKind.TheVariants.{BadNumber, TooLarge}

-- a length in metres that was read, or the fault of its text
abbrev pub height_from : Result ℤ LenFault → Result ℤ CertKind
height_from (Ok height) = Ok height
height_from (Err NotDigits) = Err BadNumber
height_from (Err LongMetres) = Err TooLarge

-- the height in a field, in metres
abbrev pub height_in : List ℕ → Result ℤ CertKind
height_in field = height_from (value field)

-- the count of observations: one to nine digits, and no more than a network takes
abbrev pub count_in : List ℕ → Result ℕ CertKind
count_in field =
    if are_digits field then (if nat_le (length field) max_digits && nat_le (number field) max_flows then Ok (number field) else Err TooLarge) else Err BadNumber

-- whether a field writes this number, with any number of leading zeros
abbrev pub writes : List ℕ → ℕ → Bool
writes field n = are_digits field && (number field == n)

-- The flow in a field, and its number in the field before it. The number must be `place`; the flow
-- is an optional sign and digits. More than nine digits of either are too large.
abbrev pub flow_in : ℕ → List ℕ → List ℕ → Result ℤ CertKind
flow_in place key field =
    if writes key place && are_digits (without_sign field)
    then (if nat_le (length key) max_digits && nat_le (length (without_sign field)) max_digits then Ok (signed (has_minus field) (number (without_sign field))) else Err TooLarge)
    else Err BadNumber

-- the cost: one to thirty digits
abbrev pub cost_in : List ℕ → Result ℕ CertKind
cost_in field = if are_digits field then (if nat_le (length field) max_cost_digits then Ok (number field) else Err TooLarge) else Err BadNumber
