use Rattle.std.specs.Prelude.{ℕ, List, ◌++◌, codes}
use Rattle.std.specs.Fmt.{decimal}
use Rattle.th_tables.specs.declared.faults.TableFault.{TableFault}
use Rattle.th_tables.specs.declared.faults.TableKind.{TableKind}
use Rattle.th_tables.specs.declared.faults.TableKind.TheVariants.{BadHeader, FieldCount, BadName, BadHeight, BadWeight, Repeated, TableTooLong, NoMemory}

-- the text of a kind of fault
abbrev pub kind_text : TableKind → List ℕ
kind_text BadHeader = codes "E1 bad header"
kind_text FieldCount = codes "E2 field count"
kind_text BadName = codes "E3 bad name"
kind_text BadHeight = codes "E4 bad height"
kind_text BadWeight = codes "E5 bad weight"
kind_text Repeated = codes "E6 repeated"
kind_text TableTooLong = codes "E7 table too long"
kind_text NoMemory = codes "out of memory"

-- the text of a fault, with its record
abbrev pub fault_text : TableFault → List ℕ
fault_text fault = codes "record " ++ decimal fault.row ++ codes ": " ++ kind_text fault.kind
