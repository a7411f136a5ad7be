-- Tables of changes.
use Rattle.std.specs.Prelude.{ℕ, ◌+◌, List, [], ◌∷◌, length, Result, Ok, Err, if◌then◌else◌, nat_lt}
use Rattle.th_csv.specs.Records.{Fields, records_of}
use Rattle.th_mend.specs.Fields.{change_in, is_header}
use Rattle.th_mend.specs.Limits.{max_changes}
use Rattle.th_mend.specs.declared.changes.Change.{Change}
use Rattle.th_mend.specs.declared.change_faults.ChangeFault.{ChangeFault}
use Rattle.th_mend.specs.declared.change_faults.ChangeKind.{ChangeKind}
use Rattle.th_mend.specs.declared.change_faults.ChangeKind.TheVariants.{BadHeader, NoMemory, TableTooLong}

-- the faults that are not of one change: out of memory, a table that is too long, and a table whose first record is not the header
abbrev pub no_memory : ChangeFault
no_memory = record { row = 0; kind = NoMemory }

abbrev pub too_long : ChangeFault
too_long = record { row = 0; kind = TableTooLong }

abbrev pub bad_header : ChangeFault
bad_header = record { row = 1; kind = BadHeader }

-- the change of the record with this number, and then the changes of later records; or the first fault
abbrev pub change_first : ℕ → Result Change ChangeKind → Result (List Change) ChangeFault → Result (List Change) ChangeFault
change_first number (Err kind) later = Err (record { row = number; kind = kind })
change_first number (Ok change) (Err fault) = Err fault
change_first number (Ok change) (Ok changes) = Ok (change ∷ changes)

-- the changes of records, in order, or the fault of the first that has one; records are numbered from this number
abbrev pub changes_from : ℕ → List Fields → Result (List Change) ChangeFault
changes_from number [] = Ok []
changes_from number (this ∷ later) = change_first number (change_in this) (changes_from (number + 1) later)

-- the changes of all records, of which the first has to be the header
abbrev pub changes_in : List Fields → Result (List Change) ChangeFault
changes_in [] = Err bad_header
changes_in (first ∷ rest) = if is_header first then changes_from 2 rest else Err bad_header

-- the changes of a table, or its first fault; a table that is too long is refused before anything else is checked
abbrev pub changes_of : List ℕ → Result (List Change) ChangeFault
changes_of bytes = if nat_lt max_changes (length bytes) then Err too_long else changes_in (records_of bytes)
