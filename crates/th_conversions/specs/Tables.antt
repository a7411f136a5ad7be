-- Tables of height differences.
use Rattle.std.specs.Prelude.{ℕ, ◌+◌, List, [], ◌∷◌, length, Option, Some, None, Result, Ok, Err, if◌then◌else◌, nat_lt}
use Rattle.th_csv.specs.Records.{Fields, records_of}
use Rattle.th_conversions.specs.Limits.{max_differences}
use Rattle.th_conversions.specs.Rows.{columns_of, row_in}
use Rattle.th_conversions.specs.declared.faults.DifferenceFault.{DifferenceFault}
use Rattle.th_conversions.specs.declared.faults.DifferenceKind.{DifferenceKind}
use Rattle.th_conversions.specs.declared.faults.DifferenceKind.TheVariants.{BadHeader, NoMemory, TableTooLong}
use Rattle.th_conversions.specs.declared.columns.Columns.{Columns}
use Rattle.th_conversions.specs.declared.rows.Row.{Row}

-- the faults that are not of one row: out of memory, a table that is too long, and a table whose first record is not a header
abbrev pub no_memory : DifferenceFault
no_memory = record { row = 0; kind = NoMemory }

abbrev pub too_long : DifferenceFault
too_long = record { row = 0; kind = TableTooLong }

abbrev pub bad_header : DifferenceFault
bad_header = record { row = 1; kind = BadHeader }

-- the row of the record with this number, and then the rows of later records; or the first fault
abbrev pub row_first : ℕ → Result Row DifferenceKind → Result (List Row) DifferenceFault → Result (List Row) DifferenceFault
row_first number (Err kind) later = Err (record { row = number; kind = kind })
row_first number (Ok row) (Err fault) = Err fault
row_first number (Ok row) (Ok rows) = Ok (row ∷ rows)

-- the rows of records, in order, or the fault of the first that has one; records are numbered from this number
abbrev pub rows_from : Columns → ℕ → List Fields → Result (List Row) DifferenceFault
rows_from columns number [] = Ok []
rows_from columns number (this ∷ later) = row_first number (row_in columns this) (rows_from columns (number + 1) later)

-- the rows under a header, which is record 1
abbrev pub rows_under : Option Columns → List Fields → Result (List Row) DifferenceFault
rows_under None records = Err bad_header
rows_under (Some columns) records = rows_from columns 2 records

-- the rows of all records, of which the first has to be a header
abbrev pub rows_in : List Fields → Result (List Row) DifferenceFault
rows_in [] = Err bad_header
rows_in (first ∷ rest) = rows_under (columns_of first) rest

-- the rows of a table, or its first fault; a table that is too long is refused before anything else is checked
abbrev pub rows_of : List ℕ → Result (List Row) DifferenceFault
rows_of bytes = if nat_lt max_differences (length bytes) then Err too_long else rows_in (records_of bytes)
