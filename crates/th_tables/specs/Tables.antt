use Rattle.std.specs.Prelude.{◌≡◌, ℕ, ◌+◌, ◌<◌, ◌==◌, Bool, false, List, [], ◌∷◌, ◌++◌, length, map, slice_get, take, Option, Some, None, Result, Ok, Err, if◌then◌else◌, bytes_eq, nat_lt}
use Rattle.std.specs.List.{list_any}
use Rattle.std.specs.Result.{result_err}
use Rattle.gsi_word.specs.Names.{same_pair}
use Rattle.th_tables.specs.Limits.{max_table}
use Rattle.th_tables.specs.Fields.{benchmark_in, is_benchmarks_header, is_weights_header, weighted_in}
use Rattle.th_csv.specs.Records.{Fields, records_of}
use Rattle.th_tables.specs.Rows.{BenchmarkRows, WeightRows}
use Rattle.th_tables.specs.declared.faults.TableFault.{TableFault}
use Rattle.th_tables.specs.declared.faults.TableKind.{TableKind}
use Rattle.th_tables.specs.declared.faults.TableKind.TheVariants.{BadHeader, NoMemory, Repeated, TableTooLong}

-- the faults that are not of one row: out of memory, a table that is too long, and a table whose first record is not its header
abbrev pub no_memory : TableFault
no_memory = record { row = 0; kind = NoMemory }

abbrev pub too_long : TableFault
too_long = record { row = 0; kind = TableTooLong }

abbrev pub bad_header : TableFault
bad_header = record { row = 1; kind = BadHeader }

module _ {K V : Type 0} where
  -- a record's row has this key; a record with a fault has none
  abbrev pub is_row_with : (K → K → Bool) → K → Result (K × V) TableKind → Bool
  is_row_with same key (Ok row) = same key row.0
  is_row_with same key (Err kind) = false

  -- a row and then the rows of later records, or the first fault; `above` records are between the header, which is record 1, and this row
  abbrev pub row_first : ℕ → Result (K × V) TableKind → Result (List (K × V)) TableFault → Result (List (K × V)) TableFault
  row_first above (Err kind) later = Err (record { row = above + 2; kind = kind })
  row_first above (Ok row) (Err fault) = Err fault
  row_first above (Ok row) (Ok rows) = Ok (row ∷ rows)

module _ {K V : Type 0} (same : K → K → Bool) (row_in : Fields → Result (K × V) TableKind) where
  -- a row, unless an earlier record has the same key
  abbrev pub unless_repeated : List Fields → Result (K × V) TableKind → Result (K × V) TableKind
  unless_repeated earlier (Err kind) = Err kind
  unless_repeated earlier (Ok row) = if list_any (λ other. is_row_with same row.0 (row_in other)) earlier then Err Repeated else Ok row

  -- the rows of records, in their order, or the fault of the first that has one; the earlier records are between the header and these
  abbrev pub rows_after : List Fields → List Fields → Result (List (K × V)) TableFault
  rows_after earlier [] = Ok []
  rows_after earlier (this ∷ later) = row_first (length earlier) (unless_repeated earlier (row_in this)) (rows_after (earlier ++ this ∷ []) later)

  -- the rows of all records under the header, which has to be the first record
  abbrev pub rows_under : (Fields → Bool) → List Fields → Result (List (K × V)) TableFault
  rows_under is_header [] = Err bad_header
  rows_under is_header (first ∷ rest) = if is_header first then rows_after [] rest else Err bad_header

  -- the first kind of fault of a record under the earlier ones, if it has one
  abbrev pub kind_under : List Fields → Option Fields → Option TableKind
  kind_under earlier None = None
  kind_under earlier (Some this) = result_err (unless_repeated earlier (row_in this))

  -- the first kind of fault of the record at a place, counted from 0 under the header
  abbrev pub kind_at : List Fields → ℕ → Option TableKind
  kind_at records place = kind_under (take place records) (slice_get records place)

  -- no record has a fault, and the rows are those of the records, in order
  pub record AreRowsOf (records : List Fields) (rows : List (K × V)) : Type 0 where
    pub faultless : (place : ℕ) → kind_at records place ≡ None
    pub said : map row_in records ≡ map Ok rows

  -- the fault is the first kind of fault of the first record that has one; the record at place 0 is record 2
  pub record IsFirstFault (records : List Fields) (fault : TableFault) : Type 0 where
    pub place : ℕ
    pub number : fault.row ≡ place + 2
    pub kind : kind_at records place ≡ Some fault.kind
    pub earlier : (before : ℕ) → before < place → kind_at records before ≡ None

-- the result of a table, or `TableTooLong` if it has too many bytes
abbrev pub if_short : {X : Type 0} → List ℕ → Result X TableFault → Result X TableFault
if_short bytes table = if nat_lt max_table (length bytes) then Err too_long else table

-- the benchmarks in a table's bytes, or the table's first fault
abbrev pub benchmarks_of : List ℕ → Result BenchmarkRows TableFault
benchmarks_of bytes = if_short bytes (rows_under bytes_eq benchmark_in is_benchmarks_header (records_of bytes))

-- the weights in a table's bytes, or the table's first fault; an empty file has no weights
abbrev pub weights_of : List ℕ → Result WeightRows TableFault
weights_of bytes = if length bytes == 0 then Ok [] else if_short bytes (rows_under same_pair weighted_in is_weights_header (records_of bytes))
