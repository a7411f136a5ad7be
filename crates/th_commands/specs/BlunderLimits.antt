-- Limits of blunders as they are typed.
use Rattle.std.specs.Prelude.{◌*◌, ◌-◌, ℕ, ℤ, Option, None, Some, codes, eqb, if◌then◌else◌, length, nat_le, option_and_then, pos, take}
use Rattle.std.specs.List.{ends_with}
use Rattle.std.specs.Option.{option_map_or}
use Rattle.std.specs.Str.Parse.{digits_value, without_leading_plus}
use Rattle.clap.specs.ValueTests.{is_numeral}
use Rattle.clap.specs.Words.{Text}
use Rattle.th_commands.specs.PlanLimits.{default_blunder, max_blunder, micrometres_in_millimetre, units_in_micrometre}

-- a limit of blunders in units of 10 nm, given in micrometres; none above the largest that a command takes
abbrev pub limit_of : ℕ → Option ℤ
limit_of micrometres = if nat_le micrometres max_blunder then Some (pos (units_in_micrometre * micrometres)) else None

-- the whole number that a text writes
abbrev pub number_in : Text → Option ℕ
number_in text =
    let digits = without_leading_plus text in
    if is_numeral digits then Some (digits_value 10 digits) else None

-- a limit of so many of a unit, which has so many micrometres
abbrev pub limit_in_unit : ℕ → Text → Option ℤ
limit_in_unit unit number = option_and_then (λ count. limit_of (unit * count)) (number_in number)

-- what a text has before this end, if it ends so
abbrev pub before_end : Text → Text → Option Text
before_end end text = if ends_with eqb text end then Some (take (length text - length end) text) else None

-- a limit with its unit: whole millimetres or whole micrometres, as `5mm` or `500um`
abbrev pub limit_in_micrometres : Text → Option ℤ
limit_in_micrometres text = option_and_then (limit_in_unit 1) (before_end (codes "um") text)

abbrev pub limit_with_unit : Text → Option ℤ
limit_with_unit text = option_map_or (limit_in_unit micrometres_in_millimetre) (before_end (codes "mm") text) (limit_in_micrometres text)

-- the limit of two options, of which one may be there: with its unit, or in micrometres; without both it is the default
abbrev pub limit_from : Option Text → Option Text → Option ℤ
limit_from None None = limit_of default_blunder
limit_from (Some text) None = limit_with_unit text
limit_from None (Some text) = limit_in_unit 1 text
limit_from (Some text) (Some other) = None
