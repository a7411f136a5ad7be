-- The mended book of a book and a table of changes.
use Rattle.std.specs.Prelude.{ℕ, ◌+◌, List, [], ◌∷◌, ◌++◌, Result, Ok, Err}
use Rattle.th_book.specs.Books.{book_answer, parsed_of}
use Rattle.th_book.specs.declared.faults.BookFault.{BookFault}
use Rattle.th_observations.specs.Observed.{Observed}
use Rattle.th_mend.specs.declared.changes.Change.{Change}
use Rattle.th_mend.specs.Edits.{edits_of}
use Rattle.th_mend.specs.Ends.{Ended, ended_lines}
use Rattle.th_mend.specs.MendedLines.{mended_line}
use Rattle.th_mend.specs.declared.edits.Edit.{Edit}
use Rattle.th_mend.specs.declared.faults.MendFault.{MendFault}
use Rattle.th_mend.specs.declared.faults.MendFault.TheVariants.{Book, Mended, Row}
use Rattle.th_mend.specs.declared.faults.RowFault.{RowFault}

-- a mended line with its end, and the text behind it; the first fault comes first
abbrev pub then_text : Result (List ℕ) RowFault → List ℕ → Result (List ℕ) RowFault → Result (List ℕ) RowFault
then_text (Err fault) end later = Err fault
then_text (Ok line) end (Err fault) = Err fault
then_text (Ok line) end (Ok text) = Ok (line ++ end ++ text)

-- the mended text of the lines from a place on, each ended as it was
abbrev pub mended_from : List Edit → ℕ → List Ended → Result (List ℕ) RowFault
mended_from edits place [] = Ok []
mended_from edits place (line ∷ lines) = then_text (mended_line edits place line.0) line.1 (mended_from edits (place + 1) lines)

-- the mended text of a book
abbrev pub mended_text : List Edit → List ℕ → Result (List ℕ) RowFault
mended_text edits bytes = mended_from edits 0 (ended_lines bytes)

-- a mended text, unless it is a book with a fault
abbrev pub if_faultless : Result (List Observed) BookFault → List ℕ → Result (List ℕ) MendFault
if_faultless (Err fault) text = Err (Mended fault)
if_faultless (Ok observations) text = Ok text

abbrev pub checked : Result (List ℕ) RowFault → Result (List ℕ) MendFault
checked (Err fault) = Err (Row fault)
checked (Ok text) = if_faultless (book_answer 1 text) text

abbrev pub mended_by : List ℕ → Result (List Edit) RowFault → Result (List ℕ) MendFault
mended_by bytes (Err fault) = Err (Row fault)
mended_by bytes (Ok edits) = checked (mended_text edits bytes)

abbrev pub unless_faulty : Result (List Observed) BookFault → Result (List ℕ) MendFault → Result (List ℕ) MendFault
unless_faulty (Err fault) text = Err (Book fault)
unless_faulty (Ok observations) text = text

-- The mended book, or why there is none: a fault of the book, then that of the first record that has one, then that of the first line
-- whose words have no place for what changes, then a fault of the mended book.
abbrev pub mended : List Change → List ℕ → Result (List ℕ) MendFault
mended changes bytes = unless_faulty (book_answer 1 bytes) (mended_by bytes (edits_of (parsed_of bytes) changes))
