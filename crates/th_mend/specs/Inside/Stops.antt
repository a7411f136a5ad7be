-- What is known of words, and of a text, that were written, and of those that were not.
use Rattle.std.specs.Prelude.{◌≡◌, ◌++◌, ℕ, List, Result, Ok, Err}
use Rattle.std.specs.List.{flat_map}
use Rattle.gsi_word.specs.Words.{closed}
use Rattle.gsi_block.specs.Blocks.{BlockParts}
use Rattle.gsi_block.specs.Writing.{block_line}
use Rattle.th_mend.specs.MendedLines.{NewWords}
use Rattle.th_mend.specs.declared.faults.MendFault.{MendFault}
use Rattle.th_mend.specs.declared.faults.MendFault.TheVariants as mend_fault
use Rattle.th_mend.specs.declared.faults.RowFault.{RowFault}
use Rattle.th_book.specs.declared.faults.BookFault.{BookFault}
use Rattle.th_book.specs.declared.faults.BookKind.{BookKind}
use Rattle.th_book.specs.declared.faults.BookKind.TheVariants as book_kind
use Rattle.th_mend.specs.declared.stops.Stop.{Stop}
use Rattle.th_mend.specs.declared.stops.Stop.TheVariants as stop
use Rattle.gsi_word.specs.Words.{Parts}

-- new words were written behind a text, each closed by a space
pub record AreWritten (owed : NewWords) (before after : List ℕ) : Type 0 where
  pub words : List Parts
  pub is : owed ≡ Ok words
  pub text : after ≡ before ++ flat_map closed words

-- a text is the row of the mended words of a block: its mark, and each word closed by a space
pub record IsRowOf (block : BlockParts) (owed : NewWords) (row : List ℕ) : Type 0 where
  pub words : List Parts
  pub is : owed ≡ Ok words
  pub text : row ≡ block_line (record { width = block.width; words = words })

-- something was not made for the fault of its record; or memory ran out
abbrev pub IsStopOf : {A : Type 0} → Result A RowFault → Stop → Type 0
IsStopOf owed (stop.Row fault) = owed ≡ Err fault
IsStopOf owed stop.NoMemory = Unit {0}

-- the fault to report, where memory may have run out instead
abbrev pub of_kind : BookKind → MendFault → MendFault
of_kind book_kind.NoMemory fault = mend_fault.NoMemory
of_kind other fault = fault

abbrev pub fault_of_book : BookFault → MendFault
fault_of_book fault = of_kind fault.kind (mend_fault.Book fault)

abbrev pub fault_of_mended : BookFault → MendFault
fault_of_mended fault = of_kind fault.kind (mend_fault.Mended fault)

abbrev pub fault_of_stop : Stop → MendFault
fault_of_stop (stop.Row fault) = mend_fault.Row fault
fault_of_stop stop.NoMemory = mend_fault.NoMemory
