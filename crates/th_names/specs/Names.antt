-- The readings that fit of the rows with number 1.
use Rattle.std.specs.Prelude.{◌≡◌, ℕ, ℤ, pos, List, [], Option, None, Some, count_by, if◌then◌else◌, int_lt, map, nat_le, unsigned_abs}
use Rattle.std.specs.List.{AllZip, enumerate_from}
use Rattle.th_entries.specs.declared.entries.Entry.{Entry}
use Rattle.th_explain.specs.Explained.{IsExplainedOrNone}
use Rattle.th_explain.specs.declared.freed.Freed.{Freed}
use Rattle.th_explain_texts.specs.Sentences.{is_first, most_named}
use Rattle.th_explain_texts.specs.declared.rows.ReadingRow.{ReadingRow}
use Rattle.th_explain_texts.specs.declared.rows.Row.{Row}
use Rattle.th_network.specs.Networks.{Survey}
use Rattle.th_names.specs.Doubts.{doubt_of, number_of}
use Rattle.th_names.specs.Nears.{AreFitting, joined, nearest}
use Rattle.th_names.specs.declared.doubts.Doubt.{Doubt}
use Rattle.th_names.specs.declared.nears.Near.{Near}

-- a reading of the row at a place
abbrev pub reading_row : ℕ → Near → ReadingRow
reading_row place near = record { row = place; read = near.read; fit = near.fit }

abbrev pub reading_rows : ℕ → List Near → List ReadingRow
reading_rows place nears = map (reading_row place) (nearest nears)

-- the readings that fit, given what is left if the number is set free
abbrev pub AreOfFreed : Survey → List Entry → ℕ → Doubt → ℕ → Option Freed → List ReadingRow → Type 0
AreOfFreed survey entries limit doubt place None readings = readings ≡ []
AreOfFreed survey entries limit doubt place (Some freed) readings = (nears : List Near) × AreFitting survey entries limit freed doubt nears × (readings ≡ reading_rows place nears)

abbrev pub AreOfDoubt : Survey → List Entry → ℕ → ℕ → Option Doubt → List ReadingRow → Type 0
AreOfDoubt survey entries limit place None readings = readings ≡ []
AreOfDoubt survey entries limit place (Some doubt) readings =
    (freed : Option Freed) × IsExplainedOrNone survey 0 (number_of doubt) freed × AreOfFreed survey entries limit doubt place freed readings

-- what is doubted where a row has number 1
abbrev pub doubt_at : List Entry → Row → Option Doubt
doubt_at entries row = if is_first row then doubt_of entries row else None

-- the readings of the row at its place
abbrev pub AreReadingsAt : Survey → List Entry → ℕ → ℕ × Row → List ReadingRow → Type 0
AreReadingsAt survey entries limit (place, row) readings = AreOfDoubt survey entries limit place (doubt_at entries row) readings

-- rows of which readings are looked for: all, if one to three have number 1
abbrev pub rows_read : List Row → List Row
rows_read rows = if nat_le (count_by is_first rows) most_named then rows else []

-- what is read may be so far from what fits: as far as the limit, and 0 where that is below
abbrev pub most_off : ℤ → ℕ
most_off limit = if int_lt limit (pos 0) then 0 else unsigned_abs limit

-- the readings of rows that fit, no further off than this
pub record AreOfRows (survey : Survey) (entries : List Entry) (limit : ℕ) (rows : List Row) (readings : List ReadingRow) : Type 0 where
  pub each : List (List ReadingRow)
  pub are_at : AllZip (AreReadingsAt survey entries limit) (enumerate_from 0 rows) each
  pub listed : readings ≡ joined each

-- the readings of rows that fit, for this limit of blunders in units of 10 nm
abbrev pub AreReadings : Survey → List Entry → ℤ → List Row → List ReadingRow → Type 0
AreReadings survey entries limit rows readings = AreOfRows survey entries (most_off limit) (rows_read rows) readings
