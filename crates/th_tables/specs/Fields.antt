use Rattle.std.specs.Prelude.{ℕ, ℤ, ◌&&◌, Bool, false, List, [], ◌∷◌, length, Option, Some, None, Result, Ok, Err, if◌then◌else◌, bytes_eq, codes, nat_le, unsigned_abs}
use Rattle.std.specs.Option.{ok_or}
use Rattle.gsi_word.specs.Names.{name_of}
use Rattle.th_units.specs.Lengths.{short_number}
use Rattle.th_units.specs.Limits.{max_len}
use Rattle.th_units.specs.Metres.{value}
use Rattle.th_units.specs.declared.faults.LenFault.{LenFault}
use Rattle.th_csv.specs.Records.{Fields}
use Rattle.th_tables.specs.declared.faults.TableKind.{TableKind}
use Rattle.th_tables.specs.declared.faults.TableKind.TheVariants.{FieldCount, BadName, BadHeight, BadWeight}
use Rattle.th_tables.specs.Limits.{max_weight, max_weight_digits}

-- the name in a field
abbrev pub name_in : List ℕ → Result (List ℕ) TableKind
name_in field = ok_or (name_of field) BadName

-- a length that was read, if it is at most 10 km in size
abbrev pub within_limit : Result ℤ LenFault → Result ℤ TableKind
within_limit (Ok height) = if nat_le (unsigned_abs height) max_len then Ok height else Err BadHeight
within_limit (Err fault) = Err BadHeight

-- the height in a field, read in metres and given in units of 10 nm
abbrev pub height_in : List ℕ → Result ℤ TableKind
height_in field = within_limit (value field)

-- a number that was read, if it is from 1 to 1,000
abbrev pub allowed_weight : Option ℕ → Result ℕ TableKind
allowed_weight (Some weight) = if nat_le 1 weight && nat_le weight max_weight then Ok weight else Err BadWeight
allowed_weight None = Err BadWeight

-- the weight in a field of at most four digits, leading zeros included
abbrev pub weight_in : List ℕ → Result ℕ TableKind
weight_in field = if nat_le (length field) max_weight_digits then allowed_weight (short_number field) else Err BadWeight

-- the two parts of a row; the fault of the first comes before that of the second
abbrev pub both : {A B : Type 0} → Result A TableKind → Result B TableKind → Result (A × B) TableKind
both (Err kind) second = Err kind
both (Ok first) (Err kind) = Err kind
both (Ok first) (Ok second) = Ok (first, second)

-- the record is the benchmarks' header: its two words exactly
abbrev pub is_benchmarks_header : Fields → Bool
is_benchmarks_header (point ∷ height ∷ []) = bytes_eq point (codes "point") && bytes_eq height (codes "height")
is_benchmarks_header _ = false

-- the name and the height in a benchmarks record, or the first kind of fault that it has by itself
abbrev pub benchmark_in : Fields → Result (List ℕ × ℤ) TableKind
benchmark_in (name ∷ height ∷ []) = both (name_in name) (height_in height)
benchmark_in _ = Err FieldCount

-- the record is the weights' header: its three words exactly
abbrev pub is_weights_header : Fields → Bool
is_weights_header (from ∷ to ∷ weight ∷ []) = bytes_eq from (codes "from") && (bytes_eq to (codes "to") && bytes_eq weight (codes "weight"))
is_weights_header _ = false

-- the station, target and weight in a weights record, or the first kind of fault that it has by itself
abbrev pub weighted_in : Fields → Result ((List ℕ × List ℕ) × ℕ) TableKind
weighted_in (station ∷ target ∷ weight ∷ []) = both (both (name_in station) (name_in target)) (weight_in weight)
weighted_in _ = Err FieldCount
