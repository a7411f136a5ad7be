-- The rows of a table of height differences.
use Rattle.std.specs.Prelude.{◌≡◌, ◌≢◌, ◌≤◌, ℕ, ℤ, ◌%◌, ◌==◌, ◌&&◌, Bool, List, [], ◌∷◌, Option, Some, None, Result, Ok, Err, if◌then◌else◌, bytes_eq, codes, nat_le, unsigned_abs}
use Rattle.std.specs.Option.{ok_or}
use Rattle.gsi_word.specs.Names.{name_of, same_name}
use Rattle.th_units.specs.Metres.{value}
use Rattle.th_units.specs.declared.faults.LenFault.{LenFault}
use Rattle.th_csv.specs.Records.{Fields}
use Rattle.th_conversions.specs.Limits.{hundredth, max_len}
use Rattle.th_conversions.specs.declared.faults.DifferenceKind.{DifferenceKind}
use Rattle.th_conversions.specs.declared.faults.DifferenceKind.TheVariants.{FieldCount, BadName, BadDifference, ToItself}
use Rattle.th_conversions.specs.declared.columns.Columns.{Columns}
use Rattle.th_conversions.specs.declared.columns.Columns.TheVariants.{Plain, Numbered}
use Rattle.th_conversions.specs.declared.rows.Row.{Row}

-- three fields are these words: the header of a table, or the end of the header of a list
abbrev pub are_headings : List ℕ → List ℕ → List ℕ → Bool
are_headings from to difference = bytes_eq from (codes "from") && (bytes_eq to (codes "to") && bytes_eq difference (codes "difference"))

-- the columns that a header names: from, to and difference, with or without a number in front; none for any other record
abbrev pub columns_of : Fields → Option Columns
columns_of (from ∷ to ∷ difference ∷ []) = if are_headings from to difference then Some Plain else None
columns_of (number ∷ from ∷ to ∷ difference ∷ []) = if bytes_eq number (codes "number") && are_headings from to difference then Some Numbered else None
columns_of _ = None

-- the three fields of a record that are read: a number in front is not
abbrev pub fields_read : Columns → Fields → Option (List ℕ × List ℕ × List ℕ)
fields_read Plain (from ∷ to ∷ difference ∷ []) = Some (from, to, difference)
fields_read Numbered (number ∷ from ∷ to ∷ difference ∷ []) = Some (from, to, difference)
fields_read _ _ = None

-- the name in a field
abbrev pub name_in : List ℕ → Result (List ℕ) DifferenceKind
name_in field = ok_or (name_of field) BadName

-- a length that a word of 1/100 mm can hold: at most 10 km in size, and a whole number of 1/100 mm
abbrev pub is_written : ℤ → Bool
is_written difference = nat_le (unsigned_abs difference) max_len && (unsigned_abs difference % hundredth == 0)

-- a difference that was read, if a word can hold it
abbrev pub written : Result ℤ LenFault → Result ℤ DifferenceKind
written (Ok difference) = if is_written difference then Ok difference else Err BadDifference
written (Err fault) = Err BadDifference

-- the difference in a field, read in metres and given in units of 10 nm
abbrev pub difference_in : List ℕ → Result ℤ DifferenceKind
difference_in field = written (value field)

-- the row of two names and a difference, unless the names are one; the first of the three that has a fault comes before
abbrev pub row_with : Result (List ℕ) DifferenceKind → Result (List ℕ) DifferenceKind → Result ℤ DifferenceKind → Result Row DifferenceKind
row_with (Err kind) to difference = Err kind
row_with (Ok from) (Err kind) difference = Err kind
row_with (Ok from) (Ok to) (Err kind) = Err kind
row_with (Ok from) (Ok to) (Ok difference) = if same_name from to then Err ToItself else Ok (record { from = from; to = to; difference = difference })

-- the row in the three fields that are read
abbrev pub row_of : Option (List ℕ × List ℕ × List ℕ) → Result Row DifferenceKind
row_of None = Err FieldCount
row_of (Some fields) = row_with (name_in fields.0) (name_in fields.1) (difference_in fields.2)

-- the row in a record under the header, or the first kind of fault that the record has
abbrev pub row_in : Columns → Fields → Result Row DifferenceKind
row_in columns record_of_row = row_of (fields_read columns record_of_row)

-- a row that a book can have: the names of two points, and a difference that a word can hold
pub record IsRow (row : Row) : Type 0 where
  pub from : name_of row.from ≡ Some row.from
  pub to : name_of row.to ≡ Some row.to
  pub distinct : row.from ≢ row.to
  pub in_range : unsigned_abs row.difference ≤ max_len
  pub whole : unsigned_abs row.difference % hundredth ≡ 0
