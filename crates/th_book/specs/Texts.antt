use Rattle.std.specs.Prelude.{ℕ, List, ◌++◌, codes}
use Rattle.std.specs.Fmt.{decimal}
use Rattle.gsi_block.specs.Faults.{fault_text as block_fault_text}
use Rattle.th_book.specs.declared.faults.BookFault.{BookFault}
use Rattle.th_book.specs.declared.faults.BookKind.{BookKind}
use Rattle.th_book.specs.declared.faults.BookKind.TheVariants.{Block, RepeatedWord, NoPointNumber, BadName, BadNumber, BadUnit, TooLarge, SightBeforeSetup, NoInstrumentHeight, NoReflectorHeight, SightToItself, BookTooLong, NoMemory}

-- the text of a kind, or its beginning, which the text of the fault of a block follows
abbrev pub kind_beginning : BookKind → List ℕ
kind_beginning (Block fault) = codes "B1 "
kind_beginning RepeatedWord = codes "B2 repeated word"
kind_beginning NoPointNumber = codes "B3 no point number"
kind_beginning BadName = codes "B4 bad name"
kind_beginning BadNumber = codes "B5 bad number"
kind_beginning BadUnit = codes "B6 bad unit"
kind_beginning TooLarge = codes "B7 too large"
kind_beginning SightBeforeSetup = codes "B8 sight before setup"
kind_beginning NoInstrumentHeight = codes "B9 no instrument height"
kind_beginning NoReflectorHeight = codes "B10 no reflector height"
kind_beginning SightToItself = codes "B11 sight to itself"
kind_beginning BookTooLong = codes "B12 book too long"
kind_beginning NoMemory = codes "out of memory"

-- the text of a kind
abbrev pub kind_text : BookKind → List ℕ
kind_text (Block fault) = kind_beginning (Block fault) ++ block_fault_text fault
kind_text other = kind_beginning other

-- the text of a fault, with its line
abbrev pub fault_text : BookFault → List ℕ
fault_text fault = codes "line " ++ decimal fault.line ++ codes ": " ++ kind_text fault.kind
