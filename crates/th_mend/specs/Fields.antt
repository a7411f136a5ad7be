-- The fields of a record as a change of a book.
use Rattle.std.specs.Prelude.{ℕ, ℤ, ◌==◌, ◌&&◌, Bool, false, List, [], ◌∷◌, length, Option, Some, None, Result, Ok, Err, if◌then◌else◌, bytes_eq, codes, nat_le, unsigned_abs}
use Rattle.std.specs.Option.{ok_or}
use Rattle.gsi_word.specs.Names.{name_of}
use Rattle.gsi_word.specs.Words.{result_map}
use Rattle.th_units.specs.Lengths.{short_number}
use Rattle.th_units.specs.Metres.{value}
use Rattle.th_units.specs.declared.faults.LenFault.{LenFault}
use Rattle.th_csv.specs.Records.{Fields}
use Rattle.th_entries.specs.declared.entries.HeightKind.{HeightKind}
use Rattle.th_entries.specs.declared.entries.HeightKind.TheVariants.{Reflector, Instrument}
use Rattle.th_mend.specs.Limits.{max_len}
use Rattle.th_mend.specs.declared.changes.Change.{Change}
use Rattle.th_mend.specs.declared.changes.Reach.{Reach}
use Rattle.th_mend.specs.declared.changes.Reach.TheVariants.{Since, Whole}
use Rattle.th_mend.specs.declared.changes.What.{What}
use Rattle.th_mend.specs.declared.changes.What.TheVariants.{Height, LeftOut, OtherSign, Sighted, Station, Target}
use Rattle.th_mend.specs.declared.change_faults.ChangeKind.{ChangeKind}
use Rattle.th_mend.specs.declared.change_faults.ChangeKind.TheVariants.{BadLength, BadLine, BadName, BadWord, FieldCount, GivenValue}

-- the record is the header: its three words exactly
abbrev pub is_header : Fields → Bool
is_header (line ∷ word ∷ value ∷ []) = bytes_eq line (codes "line") && (bytes_eq word (codes "word") && bytes_eq value (codes "value"))
is_header _ = false

-- the number of a line, counted from 1
abbrev pub counted : Option ℕ → Result ℕ ChangeKind
counted None = Err BadLine
counted (Some line) = if line == 0 then Err BadLine else Ok line

abbrev pub line_in : List ℕ → Result ℕ ChangeKind
line_in field = counted (short_number field)

-- a length that was read, if it is at most 10 km in size
abbrev pub within_limit : Result ℤ LenFault → Result ℤ ChangeKind
within_limit (Ok length) = if nat_le (unsigned_abs length) max_len then Ok length else Err BadLength
within_limit (Err fault) = Err BadLength

-- the length in a field, read in metres and given in units of 10 nm
abbrev pub length_in : List ℕ → Result ℤ ChangeKind
length_in field = within_limit (value field)

-- the name in a field
abbrev pub name_in : List ℕ → Result (List ℕ) ChangeKind
name_in field = ok_or (name_of field) BadName

-- the keyed-in height that a word names, and how far it changes
abbrev pub height_named : List ℕ → Option (HeightKind × Reach)
height_named word =
    if bytes_eq word (codes "88") then Some (Instrument, Whole)
    else (if bytes_eq word (codes "87") then Some (Reflector, Whole)
    else (if bytes_eq word (codes "88 since") then Some (Instrument, Since)
    else (if bytes_eq word (codes "87 since") then Some (Reflector, Since)
    else None)))

-- a word 33 with another length; with no value the sight is left out
abbrev pub sighted_in : List ℕ → Result What ChangeKind
sighted_in text = if length text == 0 then Ok LeftOut else result_map Sighted (length_in text)

-- the other sign, which has no value
abbrev pub sign_in : List ℕ → Result What ChangeKind
sign_in text = if length text == 0 then Ok OtherSign else Err GivenValue

-- what a word other than a height changes
abbrev pub other_in : List ℕ → List ℕ → Result What ChangeKind
other_in word text =
    if bytes_eq word (codes "33") then sighted_in text
    else (if bytes_eq word (codes "sign") then sign_in text
    else (if bytes_eq word (codes "to") then result_map Target (name_in text)
    else (if bytes_eq word (codes "from") then result_map Station (name_in text)
    else Err BadWord)))

-- a height that was named, or else another word
abbrev pub height_or : Option (HeightKind × Reach) → List ℕ → Result What ChangeKind → Result What ChangeKind
height_or (Some height) text other = result_map (Height height.0 height.1) (length_in text)
height_or None text other = other

-- what a word with a value changes
abbrev pub what_in : List ℕ → List ℕ → Result What ChangeKind
what_in word text = height_or (height_named word) text (other_in word text)

-- the change of a line; the fault of the line comes before that of the rest
abbrev pub change_of : Result ℕ ChangeKind → Result What ChangeKind → Result Change ChangeKind
change_of (Err kind) what = Err kind
change_of (Ok line) (Err kind) = Err kind
change_of (Ok line) (Ok what) = Ok (record { line = line; what = what })

-- the change in a record under the header, or the first kind of fault that the record has
abbrev pub change_in : Fields → Result Change ChangeKind
change_in (line ∷ word ∷ text ∷ []) = change_of (line_in line) (what_in word text)
change_in _ = Err FieldCount
