use Rattle.std.specs.Prelude.{ℕ, List, ◌++◌, codes}
use Rattle.std.specs.Fmt.{decimal}
use Rattle.th_conversions.specs.declared.faults.DifferenceFault.{DifferenceFault}
use Rattle.th_conversions.specs.declared.faults.DifferenceKind.{DifferenceKind}
use Rattle.th_conversions.specs.declared.faults.DifferenceKind.TheVariants.{BadHeader, FieldCount, BadName, BadDifference, ToItself, TableTooLong, NoMemory}

-- the text of a kind of fault
abbrev pub kind_text : DifferenceKind → List ℕ
kind_text BadHeader = codes "E1 bad header"
kind_text FieldCount = codes "E2 field count"
kind_text BadName = codes "E3 bad name"
kind_text BadDifference = codes "E4 bad difference"
kind_text ToItself = codes "E6 to itself"
kind_text TableTooLong = codes "E7 table too long"
kind_text NoMemory = codes "out of memory"

-- the text of a fault, with its record
abbrev pub fault_text : DifferenceFault → List ℕ
fault_text fault = codes "record " ++ decimal fault.row ++ codes ": " ++ kind_text fault.kind
