use Rattle.std.specs.Prelude.{ℕ, ℤ, ◌==◌, not, Option, Some, None, Result, Err, if◌then◌else◌, slice_index}
use Rattle.std.specs.Result.{result_map_both}
use Rattle.th_units.specs.Lengths.{are_digits}
use Rattle.th_units.specs.Lengths as lengths
use Rattle.th_units.specs.Units.{unit_of}
use Rattle.th_units.specs.declared.units.Unit.{Unit}
use Rattle.th_units.specs.declared.faults.LenFault.{LenFault}
use Rattle.th_units.specs.declared.faults.LenFault.TheVariants as len_fault
use Rattle.gsi_word.specs.Words.{Parts}
use Rattle.gsi_word.specs.declared.faults.LengthFault.{LengthFault}
use Rattle.gsi_word.specs.declared.faults.LengthFault.TheVariants.{BadNumber, BadUnit, TooLarge}

-- the index of a word whose information begins with a dot (position 3), else none; positions 4 to 6 do not matter
abbrev pub two_digit : Parts → Option ℕ
two_digit word = if slice_index word.info 0 == 46 then Some word.index else None

-- the fault of a word's length that corresponds to a fault of `th_units`
abbrev pub length_fault : LenFault → LengthFault
length_fault len_fault.NotDigits = BadNumber
length_fault len_fault.TooLarge = TooLarge

-- the length that a word's sign and data write in a unit; a bad unit if there is none
abbrev pub in_unit : Parts → Option Unit → Result ℤ LengthFault
in_unit word None = Err BadUnit
in_unit word (Some unit) = result_map_both (λ length. length) length_fault (lengths.length_of word.negative word.body unit)

-- The length that a word writes: its sign and data, in the unit of position 6. Checked in this order: the
-- data must be digits, position 6 must be a unit, and the size must be at most `max_len`.
abbrev pub length_of : Parts → Result ℤ LengthFault
length_of word = if not (are_digits word.body) then Err BadNumber else in_unit word (unit_of (slice_index word.info 3))
