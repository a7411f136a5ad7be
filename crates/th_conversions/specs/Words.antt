-- The words that a height sight gets.
use Rattle.std.specs.Prelude.{ℕ, ℤ, ◌/◌, ◌%◌, ◌^◌, ◌==◌, ◌||◌, List, [], ◌∷◌, Option, Some, None, Result, Ok, Err, if◌then◌else◌, nat_le, nat_lt, pos, unsigned_abs}
use Rattle.std.specs.Int.{is_negative}
use Rattle.th_units.specs.Limits.{max_len}
use Rattle.th_units.specs.Metres.{last_digits}
use Rattle.th_units.specs.Units.{step}
use Rattle.th_units.specs.declared.units.Unit.{Unit}
use Rattle.th_units.specs.declared.units.Unit.TheVariants.{HundredthMm, TenMilliFoot}
use Rattle.gsi_word.specs.Words.{Parts, data_len, parts}
use Rattle.gsi_word.specs.declared.words.Width.{Width}
use Rattle.th_mend.specs.NewWords.{info_of}
use Rattle.th_conversions.specs.declared.height_faults.HeightKind.{HeightKind}
use Rattle.th_conversions.specs.declared.height_faults.HeightKind.TheVariants.{FarTarget, NoUnit}

-- a length as a word writes it: in a unit, its sign, and its number
pub record Written : Type 0 where
  pub unit : Unit
  pub length : ℤ

-- the number of a length in its unit
abbrev pub number_of : Written → ℕ
number_of written = unsigned_abs written.length / step written.unit

-- the word of a length, in this width
abbrev pub word_of : Width → ℕ → Written → Parts
word_of width index written = parts index (info_of written.unit) (is_negative written.length) (last_digits (data_len width) (number_of written))

-- the length in a unit, if it is at most 10 km and its number has room in this width
abbrev pub if_room : Width → Written → Result Written HeightKind
if_room width written =
    if nat_lt max_len (unsigned_abs written.length) || nat_le (10 ^ data_len width) (number_of written) then Err FarTarget else Ok written

-- A length as a word of this width writes it: in 1/100 mm, or in 1/10,000 ft where it is no whole number of these. A length that is a whole number of neither
-- has no unit.
abbrev pub written_of : Width → ℤ → Result Written HeightKind
written_of width length =
    if unsigned_abs length % step HundredthMm == 0 then if_room width (record { unit = HundredthMm; length = length })
    else (if unsigned_abs length % step TenMilliFoot == 0 then if_room width (record { unit = TenMilliFoot; length = length })
    else Err NoUnit)

-- a height of zero
abbrev pub zero_height : Written
zero_height = record { unit = HundredthMm; length = pos 0 }

-- the word of a height of zero, where there is none
abbrev pub zero_unless : Width → ℕ → Option ℤ → List Parts
zero_unless width index (Some height) = []
zero_unless width index None = word_of width index zero_height ∷ []
