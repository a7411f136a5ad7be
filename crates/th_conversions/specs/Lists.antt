-- The list of the rows of a table.
use Rattle.std.specs.Prelude.{ℕ, List, [], ◌∷◌, decimal, map}
use Rattle.std.specs.List.{enumerate_from}
use Rattle.th_units.specs.Metres.{metres}
use Rattle.th_csv.specs.Records.{Fields}
use Rattle.th_csv.specs.Texts.{csv_text}
use Rattle.th_report.specs.Lists.{list_header}
use Rattle.th_conversions.specs.declared.rows.Row.{Row}

-- the record of a row: its number, station, target, and difference in metres
abbrev pub row_record : ℕ × Row → Fields
row_record (number, row) = decimal number ∷ row.from ∷ row.to ∷ metres row.difference ∷ []

-- the list of rows: the header of a list, and the rows, numbered from 1
abbrev pub rows_text : List Row → List ℕ
rows_text rows = csv_text (list_header ∷ map row_record (enumerate_from 1 rows))
