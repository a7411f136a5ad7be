use Rattle.std.specs.Prelude.{ℕ, List, ◌++◌, codes}
use Rattle.std.specs.Fmt.{decimal}
use Rattle.th_mend.specs.declared.change_faults.ChangeFault.{ChangeFault}
use Rattle.th_mend.specs.declared.change_faults.ChangeKind.{ChangeKind}
use Rattle.th_mend.specs.declared.change_faults.ChangeKind.TheVariants.{BadHeader, BadLength, BadLine, BadName, BadWord, FieldCount, GivenValue, NoMemory, TableTooLong}

-- the text of a kind of fault
abbrev pub kind_text : ChangeKind → List ℕ
kind_text BadHeader = codes "E1 bad header"
kind_text FieldCount = codes "E2 field count"
kind_text BadLine = codes "E8 bad line"
kind_text BadWord = codes "E9 bad word"
kind_text BadLength = codes "E4 bad length"
kind_text GivenValue = codes "E10 value not empty"
kind_text BadName = codes "E3 bad name"
kind_text TableTooLong = codes "E7 table too long"
kind_text NoMemory = codes "out of memory"

-- the text of a fault, with its record
abbrev pub fault_text : ChangeFault → List ℕ
fault_text fault = codes "record " ++ decimal fault.row ++ codes ": " ++ kind_text fault.kind
