-- The table of explanations, as comma-separated values.
use Rattle.std.specs.Prelude.{ℕ, ℤ, ◌==◌, ◌&&◌, not, Bool, List, [], ◌∷◌, ◌++◌, Option, None, Some, codes, decimal, filter, map, option_map, slice_get}
use Rattle.std.specs.List.{enumerate_from, flat_map}
use Rattle.std.specs.Option.{option_map_or}
use Rattle.th_units.specs.Metres.{metres}
use Rattle.th_csv.specs.Records.{Fields}
use Rattle.th_csv.specs.Texts.{csv_text}
use Rattle.th_explain_texts.specs.Costs.{cost_metres}
use Rattle.th_explain_texts.specs.Words.{is_pole, kind_word, word_index}
use Rattle.th_explain_texts.specs.declared.rows.Named.{Named}
use Rattle.th_explain_texts.specs.declared.rows.ReadAs.{ReadAs}
use Rattle.th_explain_texts.specs.declared.rows.ReadAs.TheVariants.{Target, Station, Point, OtherSign}
use Rattle.th_explain_texts.specs.declared.rows.ReadingRow.{ReadingRow}
use Rattle.th_explain_texts.specs.declared.rows.Row.{Row}
use Rattle.th_explain_texts.specs.declared.tables.RowTexts.{RowTexts}

-- a number that may be missing: its digits, or nothing
abbrev pub number_field : Option ℕ → List ℕ
number_field None = []
number_field (Some number) = decimal number

-- a name that may be missing
abbrev pub name_field : Option (List ℕ) → List ℕ
name_field None = []
name_field (Some name) = name

-- a length that may be missing, in metres
abbrev pub length_field : Option ℤ → List ℕ
length_field None = []
length_field (Some length) = metres length

-- the given value of a number, the lowest and the highest proposed value
abbrev pub given_of : Row → Option ℤ
given_of row = option_map (λ values. values.given) row.values

abbrev pub low_of : Row → Option ℤ
low_of row = option_map (λ values. values.low) row.values

abbrev pub high_of : Row → Option ℤ
high_of row = option_map (λ values. values.high) row.values

unfoldable pub header : Fields
header =
    codes "number" ∷ codes "kind" ∷ codes "book" ∷ codes "line" ∷ codes "word" ∷ codes "from" ∷ codes "to" ∷ codes "sights"
    ∷ codes "given" ∷ codes "low" ∷ codes "high" ∷ codes "explains" ∷ codes "left" ∷ codes "blunders"
    ∷ codes "last" ∷ codes "poles" ∷ codes "instruments" ∷ codes "reading" ∷ codes "name" ∷ codes "fit" ∷ []

-- heights in metres, with a space between them
abbrev pub spaced : Named → List ℕ
spaced named = codes " " ++ metres named.meant

unfoldable pub meant_field : List Named → List ℕ
meant_field [] = []
meant_field (named ∷ others) = metres named.meant ++ flat_map spaced others

-- the poles that are named for the row at a place, and the heights of instruments
abbrev pub is_pole_of : ℕ → Named → Bool
is_pole_of row named = named.row == row && is_pole named.height

abbrev pub is_instrument_of : ℕ → Named → Bool
is_instrument_of row named = named.row == row && not (is_pole named.height)

-- what is read otherwise, and the name that is read
abbrev pub reading_word : ReadAs → List ℕ
reading_word (Target name) = codes "target"
reading_word (Station name) = codes "station"
reading_word (Point name) = codes "point"
reading_word OtherSign = codes "sign"

abbrev pub name_read : ReadAs → List ℕ
name_read (Target name) = name
name_read (Station name) = name
name_read (Point name) = name
name_read OtherSign = []

-- the texts of a record: the number of the row, its values and costs, the heights that are named for it, and what is read otherwise
pub record Texts : Type 0 where
  pub number : List ℕ
  pub given : List ℕ
  pub low : List ℕ
  pub high : List ℕ
  pub explains : List ℕ
  pub left : List ℕ
  pub blunders : List ℕ
  pub poles : List ℕ
  pub instruments : List ℕ
  pub reading : List ℕ
  pub name : List ℕ
  pub fit : List ℕ

abbrev pub texts_in : RowTexts → Texts
texts_in texts = record {
  number = texts.number.now;
  given = texts.given.now;
  low = texts.low.now;
  high = texts.high.now;
  explains = texts.explains.now;
  left = texts.left.now;
  blunders = texts.blunders.now;
  poles = texts.poles.now;
  instruments = texts.instruments.now;
  reading = texts.reading.now;
  name = texts.name.now;
  fit = texts.fit.now;
}

abbrev pub texts_of : List Named → ℕ × Row → Texts
texts_of named (place, row) = record {
  number = decimal row.number;
  given = length_field (given_of row);
  low = length_field (low_of row);
  high = length_field (high_of row);
  explains = cost_metres row.explains;
  left = cost_metres row.left;
  blunders = decimal row.blunders;
  poles = meant_field (filter (is_pole_of place) named);
  instruments = meant_field (filter (is_instrument_of place) named);
  reading = [];
  name = [];
  fit = [];
}

-- the texts of a reading of a row: it has no number, and no costs
abbrev pub texts_read : Row → ReadingRow → Texts
texts_read row own = record {
  number = [];
  given = length_field (given_of row);
  low = length_field (low_of row);
  high = length_field (high_of row);
  explains = [];
  left = [];
  blunders = [];
  poles = [];
  instruments = [];
  reading = reading_word own.read;
  name = name_read own.read;
  fit = cost_metres own.fit;
}

-- the fields of a row with these texts
unfoldable pub record_with : Row → Texts → Fields
record_with row texts =
    texts.number ∷ kind_word row.kind ∷ number_field row.book ∷ number_field row.line ∷ word_index row.kind ∷ name_field row.from ∷ name_field row.to ∷ decimal row.sights
    ∷ texts.given ∷ texts.low ∷ texts.high ∷ texts.explains ∷ texts.left ∷ texts.blunders
    ∷ number_field row.last ∷ texts.poles ∷ texts.instruments ∷ texts.reading ∷ texts.name ∷ texts.fit ∷ []

-- the fields of a row at its place
abbrev pub row_record : List Named → ℕ × Row → Fields
row_record named (place, row) = record_with row (texts_of named (place, row))

-- the fields of a reading, if it is of one of the rows
abbrev pub record_read : ReadingRow → Row → List Fields
record_read own row = record_with row (texts_read row own) ∷ []

abbrev pub reading_records : List Row → ReadingRow → List Fields
reading_records rows own = option_map_or (record_read own) (slice_get rows own.row) []

-- the records of the rows, and those of the readings behind them
abbrev pub row_records : List Row → List Named → List Fields
row_records rows named = map (row_record named) (enumerate_from 0 rows)

-- the text of the table
abbrev pub table_text : List Row → List Named → List ReadingRow → List ℕ
table_text rows named readings = csv_text (header ∷ row_records rows named) ++ csv_text (flat_map (reading_records rows) readings)
