-- The fault of a certificate, decided by its first faulty record and the records above that one.
use Rattle.std.specs.Prelude.{◌≡◌, ◌⊎◌, ◌≤◌, ◌<◌, ℕ, ◌+◌, ◌&&◌, ◌||◌, ◌==◌, not, Bool, true, false, List, [], ◌∷◌, length, slice_get, take, Option, Some, None, if◌then◌else◌, bytes_eq, codes, nat_le, nat_lt, unwrap_or}
use Rattle.std.specs.List.{count_by, list_all, list_any}
use Rattle.std.specs.Option.{option_map_or}
use Rattle.gsi_word.specs.Names.{name_of}
use Rattle.th_units.specs.Lengths.{are_digits, number}
use Rattle.th_units.specs.Metres.{is_in_metres, whole, without_sign}
use Rattle.th_csv.specs.Records.{Fields, records_of}
use Rattle.th_certificate.specs.Faults.{too_long}
use Rattle.th_certificate.specs.Limits.{max_certificate, max_cost_digits, max_digits, max_flows}
use Rattle.th_certificate.specs.Numbers.{writes}
use Rattle.th_certificate.specs.Reading.{is_header}
use Rattle.th_certificate.specs.declared.faults.CertFault.{CertFault}
use Rattle.th_certificate.specs.declared.faults.CertKind.{CertKind}
use Rattle.th_certificate.specs.declared.faults.CertKind.TheVariants.{BadHeader, FieldCount, BadKind, BadName, BadNumber, TooLarge, Truncated}

-- a record of three fields: the letter of its kind, a key and a number
abbrev pub has_three_fields : Fields → Bool
has_three_fields (letter ∷ key ∷ number ∷ []) = true
has_three_fields _ = false

abbrev pub letter_of : Fields → List ℕ
letter_of row = unwrap_or (slice_get row 0) []

abbrev pub key_of : Fields → List ℕ
key_of row = unwrap_or (slice_get row 1) []

abbrev pub number_of : Fields → List ℕ
number_of row = unwrap_or (slice_get row 2) []

-- the row has the letter of this kind
abbrev pub is_of : List ℕ → Fields → Bool
is_of letter row = bytes_eq (letter_of row) letter

-- how many rows are of this kind
abbrev pub count_of : List ℕ → List Fields → ℕ
count_of letter rows = count_by (is_of letter) rows

-- whether no row has one of these letters
abbrev pub lacks : List ℕ → List Fields → Bool
lacks letters rows = list_all (λ letter. count_of (letter ∷ []) rows == 0) letters

-- a version row: its key is 1 or 2, and its number counts the flows
abbrev pub is_version_row : Fields → Bool
is_version_row row = is_of (codes "V") row && (bytes_eq (key_of row) (codes "1") || bytes_eq (key_of row) (codes "2"))

abbrev pub is_of_version_2 : Fields → Bool
is_of_version_2 version_row = bytes_eq (key_of version_row) (codes "2")

abbrev pub flow_count : Fields → ℕ
flow_count version_row = number (number_of version_row)

-- a row for a height, a lowest height or a highest height of a name
abbrev pub is_height_row : Fields → Bool
is_height_row row = is_of (codes "H") row || (is_of (codes "L") row || is_of (codes "U") row)

-- Whether a row may come below a version row and the rows above it. The kinds come in the order H, L, U, F, Z; only version 2
-- has L and U; there are as many F rows as the version row counts, and then one Z row, whose key is `cost`.
abbrev pub may_stand : Fields → List Fields → Fields → Bool
may_stand version_row above row =
    if is_of (codes "H") row then lacks (codes "LUFZ") above
    else (if is_of (codes "L") row then is_of_version_2 version_row && lacks (codes "UFZ") above
    else (if is_of (codes "U") row then is_of_version_2 version_row && lacks (codes "FZ") above
    else (if is_of (codes "F") row then nat_lt (count_of (codes "F") above) (flow_count version_row) && lacks (codes "Z") above
    else (is_of (codes "Z") row && (bytes_eq (key_of row) (codes "cost") && ((count_of (codes "F") above == flow_count version_row) && lacks (codes "Z") above))))))

-- whether the key of a row gives this name
abbrev pub gives_name : List ℕ → Fields → Bool
gives_name name row = option_map_or (bytes_eq name) (name_of (key_of row)) false

-- whether no row above has the same kind and this name
abbrev pub is_new : List Fields → Fields → List ℕ → Bool
is_new above row name = not (list_any (λ other. is_of (letter_of row) other && gives_name name other) above)

-- a row for a height has a name that is new in its kind; other rows need no name
abbrev pub is_named : List Fields → Fields → Bool
is_named above row = if is_height_row row then option_map_or (is_new above row) (name_of (key_of row)) false else true

-- The numbers of a row have their form: a height is in metres; the key of a flow writes its number,
-- counted from 1, and the flow is digits after an optional sign; a cost is digits.
abbrev pub has_form : List Fields → Fields → Bool
has_form above row =
    if is_height_row row then is_in_metres (without_sign (number_of row))
    else (if is_of (codes "F") row then writes (key_of row) (count_of (codes "F") above + 1) && are_digits (without_sign (number_of row))
    else are_digits (number_of row))

-- the numbers of a row have no more digits than are read, leading zeros included: those before the dot of a height, of a flow and its number, or of a cost
abbrev pub is_short : Fields → Bool
is_short row =
    if is_height_row row then nat_le (length (whole (without_sign (number_of row)))) max_digits
    else (if is_of (codes "F") row then nat_le (length (key_of row)) max_digits && nat_le (length (without_sign (number_of row))) max_digits
    else nat_le (length (number_of row)) max_cost_digits)

-- The fault of a record: the first of these requirements that it does not meet. It has three fields; it may come at this place;
-- if it is for a height, it has a name that is new; its numbers have their form; and they are not too large.
abbrev pub first_unmet : Bool → Bool → Bool → Bool → Bool → Option CertKind
first_unmet false stands named formed small = Some FieldCount
first_unmet true false named formed small = Some BadKind
first_unmet true true false formed small = Some BadName
first_unmet true true true false small = Some BadNumber
first_unmet true true true true false = Some TooLarge
first_unmet true true true true true = None

-- the fault of record 2, if it has one: it must be a version row, whose count is digits and not too large
abbrev pub version_kind : Fields → Option CertKind
version_kind row =
    first_unmet (has_three_fields row) (is_version_row row) true (are_digits (number_of row))
    (nat_le (length (number_of row)) max_digits && nat_le (flow_count row) max_flows)

-- the fault of a record below the version row and the rows above it, if it has one
abbrev pub row_kind : Fields → List Fields → Fields → Option CertKind
row_kind version_row above row = first_unmet (has_three_fields row) (may_stand version_row above row) (is_named above row) (has_form above row) (is_short row)

-- the fault of a record below all records above it, or of a missing one; the first record must be the header, and the last one the cost
abbrev pub kind_under : List Fields → Option Fields → Option CertKind
kind_under [] (Some row) = if is_header row then None else Some BadHeader
kind_under [] None = Some BadHeader
kind_under (header ∷ []) (Some row) = version_kind row
kind_under (header ∷ []) None = Some Truncated
kind_under (header ∷ version_row ∷ above) (Some row) = row_kind version_row above row
kind_under (header ∷ version_row ∷ above) None = if lacks (codes "Z") above then Some Truncated else None

-- the fault of the record at a place, counted from 0
abbrev pub kind_at : List Fields → ℕ → Option CertKind
kind_at records place = kind_under (take place records) (slice_get records place)

-- the fault is that of the first record that has one; the record at place 0 is record 1
pub record IsFirstFault (records : List Fields) (fault : CertFault) : Type 0 where
  pub place : ℕ
  pub number : fault.row ≡ place + 1
  pub kind : kind_at records place ≡ Some fault.kind
  pub earlier : (before : ℕ) → before < place → kind_at records before ≡ None

-- the fault of these bytes: they are too many, or else it is that of the first faulty record
abbrev pub IsFault : List ℕ → CertFault → Type 0
IsFault bytes fault = ((max_certificate < length bytes) × (fault ≡ too_long)) ⊎ ((length bytes ≤ max_certificate) × IsFirstFault (records_of bytes) fault)

-- bytes without a fault: they are not too many, and no record has one
abbrev pub IsFaultless : List ℕ → Type 0
IsFaultless bytes = (length bytes ≤ max_certificate) × ((place : ℕ) → kind_at (records_of bytes) place ≡ None)
