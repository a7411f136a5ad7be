-- Words with another length, sign or name, and a word that is added to a block.
use Rattle.std.specs.Prelude.{ℕ, ℤ, ◌-◌, ◌/◌, ◌%◌, ◌^◌, ◌==◌, not, List, ◌++◌, Option, Some, None, Result, Ok, Err, codes, if◌then◌else◌, length, nat_le, nat_lt, replicate, slice_index, unsigned_abs}
use Rattle.std.specs.Int.{is_negative}
use Rattle.gsi_word.specs.Words.{Parts, data_len, parts, result_map}
use Rattle.gsi_word.specs.declared.words.Width.{Width}
use Rattle.th_units.specs.Metres.{last_digits}
use Rattle.th_units.specs.Units.{step, unit_of}
use Rattle.th_units.specs.declared.units.Unit.{Unit}
use Rattle.th_units.specs.declared.units.Unit.TheVariants.{HundredthMm, TenMilliFoot}
use Rattle.th_mend.specs.declared.misfits.Misfit.{Misfit}
use Rattle.th_mend.specs.declared.misfits.Misfit.TheVariants.{LongName, NotWhole, NoUnit, TooManyDigits}

-- the data of a length in a unit: the number of units in its size, in so many digits
abbrev pub length_data : ℕ → ℤ → Unit → Result (List ℕ) Misfit
length_data digits length unit =
    let number = unsigned_abs length / step unit in
    if not (unsigned_abs length % step unit == 0) then Err NotWhole
    else (if nat_le (10 ^ digits) number then Err TooManyDigits
    else Ok (last_digits digits number))

-- a word with other data and another sign; its index and its information stay
abbrev pub with_body : Parts → ℤ → List ℕ → Parts
with_body word length body = parts word.index word.info (is_negative length) body

abbrev pub in_unit : ℤ → Parts → Option Unit → Result Parts Misfit
in_unit own word None = Err NoUnit
in_unit own word (Some unit) = result_map (with_body word own) (length_data (length word.body) own unit)

-- A word with another length: its data are the number of the length in the word's own unit, in as many digits as before, and its sign is that of the length.
abbrev pub with_length : ℤ → Parts → Result Parts Misfit
with_length length word = in_unit length word (unit_of (slice_index word.info 3))

-- a word with the other sign
abbrev pub with_other_sign : Parts → Parts
with_other_sign word = parts word.index word.info (not word.negative) word.body

-- the data of a name in so many bytes: zeros before it
abbrev pub name_data : ℕ → List ℕ → Result (List ℕ) Misfit
name_data bytes name = if nat_lt bytes (length name) then Err LongName else Ok (replicate (bytes - length name) 48 ++ name)

-- a word with another name, with as many bytes of data as before
abbrev pub with_name : List ℕ → Parts → Result Parts Misfit
with_name name word = result_map (parts word.index word.info word.negative) (name_data (length word.body) name)

-- the information of an added word in a unit: calculated (mode 4), and the code of the unit; other units are not added
abbrev pub info_of : Unit → List ℕ
info_of TenMilliFoot = codes "..47"
info_of other = codes "..48"

-- the added word of a length in a unit
abbrev pub added_in : Width → ℕ → ℤ → Unit → Result Parts Misfit
added_in width index length unit = result_map (parts index (info_of unit) (is_negative length)) (length_data (data_len width) length unit)

-- the word of a length that is added to a block of this width: in 1/100 mm, or in 1/10,000 ft where it is a whole number of these alone
abbrev pub added_word : Width → ℕ → ℤ → Result Parts Misfit
added_word width index length =
    added_in width index length (if unsigned_abs length % step HundredthMm == 0 then HundredthMm else TenMilliFoot)
