-- The readings of numbers, in sentences.
use Rattle.std.specs.Prelude.{ℕ, ◌==◌, Bool, true, false, List, [], ◌∷◌, ◌++◌, codes, filter, if◌then◌else◌}
use Rattle.std.specs.List.{enumerate_from, flat_map}
use Rattle.th_columns.specs.Columns.{line_end}
use Rattle.th_explain_texts.specs.Called.{capital, line_name}
use Rattle.th_explain_texts.specs.Costs.{cost_metres}
use Rattle.th_explain_texts.specs.Tables.{name_field}
use Rattle.th_explain_texts.specs.declared.rows.Kind.{Kind}
use Rattle.th_explain_texts.specs.declared.rows.Kind.TheVariants.{Instrument, Reflector, InstrumentSince, ReflectorSince, Sight, Benchmark, Book}
use Rattle.th_explain_texts.specs.declared.rows.ReadAs.{ReadAs}
use Rattle.th_explain_texts.specs.declared.rows.ReadAs.TheVariants.{Target, Station, Point, OtherSign}
use Rattle.th_explain_texts.specs.declared.rows.ReadingRow.{ReadingRow}
use Rattle.th_explain_texts.specs.declared.rows.Row.{Row}

-- the line of a row, with a capital letter
abbrev pub line_called : Bool → Row → List ℕ
line_called several row = capital (line_name several row)

-- that another point fits in place of the target of a sight, or of the station of a setup
abbrev pub target_called : Bool → Row → List ℕ → List ℕ
target_called several row name = line_called several row ++ codes " fits " ++ name ++ codes " in place of " ++ name_field row.to

abbrev pub station_called : Bool → Row → List ℕ → List ℕ
station_called several row name = codes "The setup of " ++ line_name several row ++ codes " fits " ++ name ++ codes " in place of " ++ name_field row.from

-- that the height of a benchmark fits another point
abbrev pub point_called : Row → List ℕ → List ℕ
point_called row name = codes "The height of " ++ name_field row.from ++ codes " fits " ++ name

-- that the other sign of word 33 fits
abbrev pub sign_called : Bool → Row → List ℕ
sign_called several row = line_called several row ++ codes " fits with the other sign of word 33"

-- what fits of a row
abbrev pub read_called : Bool → Row → ReadAs → List ℕ
read_called several row (Target name) = target_called several row name
read_called several row (Station name) = station_called several row name
read_called several row (Point name) = point_called row name
read_called several row OtherSign = sign_called several row

-- how far a reading is from what is read
abbrev pub fit_called : ℕ → List ℕ
fit_called fit = codes ", within " ++ cost_metres fit ++ (codes " m." ++ line_end)

-- what fits of a row, and how far it is from what is read
unfoldable pub reading_line : Bool → Row → ReadingRow → List ℕ
reading_line several row own = read_called several row own.read ++ fit_called own.fit

-- the number is the instrument height of a setup
abbrev pub is_instrument : Kind → Bool
is_instrument Instrument = true
is_instrument Reflector = false
is_instrument InstrumentSince = false
is_instrument ReflectorSince = false
is_instrument Sight = false
is_instrument Benchmark = false
is_instrument Book = false

-- that the setup may have stood on a point that has no other name
unfoldable pub elsewhere_line : Row → List ℕ
elsewhere_line row = codes "Or the setup stood on another point than " ++ name_field row.from ++ (codes "." ++ line_end)

abbrev pub elsewhere_lines : Row → List ReadingRow → List ℕ
elsewhere_lines row [] = if is_instrument row.kind then elsewhere_line row else []
elsewhere_lines row (own ∷ readings) = []

-- the readings of a row; of an instrument height without any, that the setup may have stood elsewhere
abbrev pub lines_of_readings : Bool → Row → List ReadingRow → List ℕ
lines_of_readings several row readings = flat_map (reading_line several row) readings ++ elsewhere_lines row readings

-- the readings of the row at a place
abbrev pub is_reading_of : ℕ → ReadingRow → Bool
is_reading_of place own = own.row == place

-- the sentences on the readings of the row at its place, if it has number 1
abbrev pub readings_at : Bool → List ReadingRow → ℕ × Row → List ℕ
readings_at several readings (place, row) = if row.number == 1 then lines_of_readings several row (filter (is_reading_of place) readings) else []

abbrev pub each_reading : Bool → List Row → List ReadingRow → List ℕ
each_reading several rows readings = flat_map (readings_at several readings) (enumerate_from 0 rows)
