use Rattle.std.specs.Prelude.{ℕ, Option, Some, None, if◌then◌else◌, ◌==◌}
use Rattle.th_units.specs.declared.units.Unit.{Unit}
use Rattle.th_units.specs.declared.units.Unit.TheVariants.{Mm, MilliFoot, TenthMm, TenMilliFoot, HundredthMm}

-- The length of one of each unit, in units of 10 nm: a millimetre, a thousandth of a foot, a tenth of a millimetre, a
-- ten-thousandth of a foot, a hundredth of a millimetre. The foot is the international one of 0.3048 m.
abbrev pub step : Unit → ℕ
step Mm = 100000
step MilliFoot = 30480
step TenthMm = 10000
step TenMilliFoot = 3048
step HundredthMm = 1000

-- the unit with this ASCII code: '0', '1', '6', '7' or '8'; none for any other code
abbrev pub unit_of : ℕ → Option Unit
unit_of code =
    if code == 48 then Some Mm
    else (if code == 49 then Some MilliFoot
    else (if code == 54 then Some TenthMm
    else (if code == 55 then Some TenMilliFoot
    else (if code == 56 then Some HundredthMm
    else None))))
