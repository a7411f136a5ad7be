-- What was given of a number, and what fits.
use Rattle.std.specs.Prelude.{ℕ, ℤ, pos, ◌||◌, Bool, List, [], ◌++◌, Option, None, Some, codes, if◌then◌else◌, int_lt}
use Rattle.std.specs.Ordering.{int_eq}
use Rattle.th_units.specs.Metres.{metres}
use Rattle.th_columns.specs.Columns.{line_end}
use Rattle.th_explain_texts.specs.Called.{called, capital}
use Rattle.th_explain_texts.specs.Columns.{mildest_value}
use Rattle.th_explain_texts.specs.declared.rows.Kind.{Kind}
use Rattle.th_explain_texts.specs.declared.rows.Kind.TheVariants.{Instrument, Reflector, InstrumentSince, ReflectorSince, Sight, Benchmark, Book}
use Rattle.th_explain_texts.specs.declared.rows.Row.{Row}
use Rattle.th_explain_texts.specs.declared.rows.Values.{Values}

-- the proposed values: one, or from the lowest to the highest
abbrev pub range_called : ℤ → ℤ → List ℕ
range_called low high = if int_eq low high then metres low else (codes "from " ++ metres low ++ codes " to " ++ metres high)

-- the given value and the proposed ones, behind the name of a number
unfoldable pub fits : Values → List ℕ
fits values = codes ": given " ++ metres values.given ++ codes ", fits " ++ range_called values.low values.high ++ codes "." ++ line_end

-- an instrument stands no higher than this, and no pole is longer: 5 m
abbrev pub highest_stand : ℤ
highest_stand = pos 500000000

-- none of the proposed values is a height of an instrument or the length of a pole
abbrev pub are_impossible : Values → Bool
are_impossible values = int_lt values.high (pos 0) || int_lt highest_stand values.low

unfoldable pub no_instrument_line : Values → List ℕ
no_instrument_line values = codes "No instrument stands at " ++ metres (mildest_value values) ++ codes " m: look at the name of the station." ++ line_end

unfoldable pub no_pole_line : Values → List ℕ
no_pole_line values = codes "No pole is " ++ metres (mildest_value values) ++ codes " m long." ++ line_end

-- that no proposed value can be, of a height that was keyed in
abbrev pub impossible_line : Kind → Values → List ℕ
impossible_line Instrument values = no_instrument_line values
impossible_line Reflector values = no_pole_line values
impossible_line InstrumentSince values = no_instrument_line values
impossible_line ReflectorSince values = no_pole_line values
impossible_line Sight values = []
impossible_line Benchmark values = []
impossible_line Book values = []

abbrev pub impossible_lines : Kind → Values → List ℕ
impossible_lines kind values = if are_impossible values then impossible_line kind values else []

-- the lines of a number that has a value
abbrev pub lines_with : Bool → Row → Values → List ℕ
lines_with several row values = capital (called several row.kind row) ++ fits values ++ impossible_lines row.kind values

abbrev pub lines_of : Bool → Row → Option Values → List ℕ
lines_of several row None = []
lines_of several row (Some values) = lines_with several row values

abbrev pub number_lines : Bool → Row → List ℕ
number_lines several row = lines_of several row row.values
