-- The faults of a book with heights, and their texts.
use Rattle.std.specs.Prelude.{ℕ, ◌+◌, List, [], ◌∷◌, ◌++◌, Bool, Option, Some, None, codes, if◌then◌else◌}
use Rattle.std.specs.Fmt.{decimal}
use Rattle.th_book.specs.Texts as book
use Rattle.th_book.specs.declared.faults.BookFault.{BookFault}
use Rattle.th_conversions.specs.declared.height_faults.HeightFault.{HeightFault}
use Rattle.th_conversions.specs.declared.height_faults.HeightKind.{HeightKind}
use Rattle.th_conversions.specs.declared.height_faults.HeightKind.TheVariants.{Book, FarTarget, HasDifference, NoStationHeight, NoUnit}

-- a fault that a book has, too
abbrev pub of_book : BookFault → HeightFault
of_book fault = record { line = fault.line; kind = Book fault.kind }

-- a fault of this kind in the line at a place; lines count from 1
abbrev pub fault_in : ℕ → HeightKind → HeightFault
fault_in place kind = record { line = place + 1; kind = kind }

-- a kind of fault, and whether it applies
abbrev pub Row : Type 0
Row = Bool × HeightKind

-- the first kind of a table that applies
abbrev pub first_applying : List Row → Option HeightKind
first_applying [] = None
first_applying (row ∷ rows) = if row.0 then Some row.1 else first_applying rows

-- the text of a kind, or its beginning, which the text of the fault of a block follows
abbrev pub kind_beginning : HeightKind → List ℕ
kind_beginning (Book kind) = book.kind_beginning kind
kind_beginning HasDifference = codes "B2 has a word 33"
kind_beginning NoUnit = codes "B6 no unit for word 33"
kind_beginning FarTarget = codes "B7 too large for word 33"
kind_beginning NoStationHeight = codes "B9 no station height"

-- the text of a kind
abbrev pub kind_text : HeightKind → List ℕ
kind_text (Book kind) = book.kind_text kind
kind_text other = kind_beginning other

-- the text of a fault, with its line
abbrev pub fault_text : HeightFault → List ℕ
fault_text fault = codes "line " ++ decimal fault.line ++ codes ": " ++ kind_text fault.kind
