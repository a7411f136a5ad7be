-- Why a book is not mended, and the texts of the reasons.
use Rattle.std.specs.Prelude.{ℕ, List, ◌++◌, codes}
use Rattle.std.specs.Fmt.{decimal}
use Rattle.th_book.specs.Texts as book
use Rattle.th_mend.specs.declared.faults.MendFault.{MendFault}
use Rattle.th_mend.specs.declared.faults.MendFault.TheVariants.{Book, Mended, NoMemory, Row}
use Rattle.th_mend.specs.declared.faults.MendKind.{MendKind}
use Rattle.th_mend.specs.declared.faults.MendKind.TheVariants.{BeginsSetup, Clash, LongName, NoHeight, NoLine, NoSetup, NoSight, NoUnit, NotWhole, TooManyDigits}
use Rattle.th_mend.specs.declared.faults.RowFault.{RowFault}

-- the text of a kind of fault
abbrev pub kind_text : MendKind → List ℕ
kind_text NoLine = codes "M1 no such line"
kind_text NoSight = codes "M2 no sight in this line"
kind_text NoSetup = codes "M3 no setup in this line"
kind_text NoHeight = codes "M4 no such height in force"
kind_text BeginsSetup = codes "M5 the line would be a setup"
kind_text Clash = codes "M6 changed by an earlier record"
kind_text NoUnit = codes "M7 no unit"
kind_text NotWhole = codes "M8 no whole number of the unit"
kind_text TooManyDigits = codes "M9 too many digits"
kind_text LongName = codes "M10 name too long"

-- the text of the fault of a record
abbrev pub row_text : RowFault → List ℕ
row_text fault = codes "record " ++ decimal fault.row ++ codes ": " ++ kind_text fault.kind

-- the text of a fault
abbrev pub fault_text : MendFault → List ℕ
fault_text (Book fault) = book.fault_text fault
fault_text (Row fault) = row_text fault
fault_text (Mended fault) = codes "mended " ++ book.fault_text fault
fault_text NoMemory = codes "out of memory"
