use Rattle.std.specs.Prelude.{◌≡◌, ◌<◌, ℕ, Bool, List, length}
use Rattle.std.specs.List.{flat_map}
use Rattle.csv.specs.Reading.{strip_bom}
use Rattle.csv.specs.Writing as csv
use Rattle.th_csv.specs.Records.{Fields}

-- the text of a row, as `csv` writes one by default
abbrev pub row_text : Fields → List ℕ
row_text fields = csv.row_text csv.default_writer fields

-- the text of rows
abbrev pub csv_text : List Fields → List ℕ
csv_text rows = flat_map row_text rows

-- what was written: the text, and whether an allocation failed
pub record Written : Type 0 where
  pub text : List ℕ
  pub refused : Bool

-- a row that has a field
abbrev pub HasField : Fields → Type 0
HasField row = 0 < length row

-- a text that does not begin with a byte order mark
abbrev pub IsUnmarked : List ℕ → Type 0
IsUnmarked text = strip_bom text ≡ text
