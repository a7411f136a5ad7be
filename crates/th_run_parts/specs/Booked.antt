-- What a run that makes a book must return, and what it prints.
use Rattle.std.specs.Prelude.{◌≡◌, ◌≢◌, ℕ, List, [], ◌∷◌}
use Rattle.std.specs.List.{Contains}
use Rattle.th_run_parts.specs.declared.conversions.Conversion.{Conversion}
use Rattle.th_run_parts.specs.declared.conversions.Conversion.TheVariants.{Differences, Heights}
use Rattle.th_conversions.specs.Books.{book_of_table}
use Rattle.th_book.specs.declared.faults.BookKind.TheVariants as book_kind
use Rattle.th_conversions.specs.declared.faults.DifferenceKind.TheVariants as difference_kind
use Rattle.th_conversions.specs.declared.height_faults.HeightKind.TheVariants as height_kind
use Rattle.th_conversions.specs.Printed.{book_of_heights}
use Rattle.th_run_parts.specs.Inputs.{Given, Owed, or_refused, owed_for}
use Rattle.th_run_parts.specs.Writes.{Texts}
use Rattle.th_inputs.specs.declared.inputs.Input.{Input}
use Rattle.th_inputs.specs.declared.inputs.Input.TheVariants as input
use Rattle.th_run_parts.specs.declared.outputs.Output.{Output}
use Rattle.th_run_parts.specs.declared.outputs.Output.TheVariants as output
use Rattle.th_run_parts.specs.declared.refusals.Refusal.{Refusal}
use Rattle.th_run_parts.specs.declared.refusals.Refusal.TheVariants as refusal

-- what must be returned for a table of differences: its book, or its first fault
abbrev pub owed_for_differences : Given → Owed (List ℕ)
owed_for_differences = owed_for input.Differences (λ text. or_refused refusal.Differences (book_of_table text))

-- what must be returned for a book with heights: the book that is printed of it, or its first fault
abbrev pub owed_for_heights : Given → Owed (List ℕ)
owed_for_heights = owed_for (input.Book 1) (λ text. or_refused refusal.Heights (book_of_heights text))

-- the input that is converted
abbrev pub input_of : Conversion → Input
input_of Differences = input.Differences
input_of Heights = input.Book 1

-- what must be returned for the input of a conversion
abbrev pub converted : Conversion → Given → Owed (List ℕ)
converted Differences = owed_for_differences
converted Heights = owed_for_heights

-- what a run that makes a book writes
abbrev pub booking : List Output
booking = output.Book ∷ []

-- the text of its output
abbrev pub booked : List ℕ → Texts
booked book = (output.Book, book) ∷ []

-- A refusal for the table of differences, or out of memory. A fault in the refusal is never `NoMemory`.
abbrev pub IsOfDifferences : Refusal → Type 0
IsOfDifferences (refusal.Differences fault) = fault.kind ≢ difference_kind.NoMemory
IsOfDifferences (refusal.Read which) = which ≡ input.Differences
IsOfDifferences refusal.NoMemory = Unit {0}
IsOfDifferences other = ⊥

-- the same for the book with heights, which is book 1
abbrev pub IsOfHeights : Refusal → Type 0
IsOfHeights (refusal.Heights fault) = fault.kind ≢ height_kind.Book book_kind.NoMemory
IsOfHeights (refusal.Read which) = which ≡ input.Book 1
IsOfHeights refusal.NoMemory = Unit {0}
IsOfHeights other = ⊥

-- a refusal for the input of a conversion, or out of memory
abbrev pub IsOfConversion : Conversion → Refusal → Type 0
IsOfConversion Differences own = IsOfDifferences own
IsOfConversion Heights own = IsOfHeights own

-- the refusal of a run that makes a book names the input or the book
abbrev pub IsOfBooking : Conversion → Refusal → Type 0
IsOfBooking conversion (refusal.Write which) = Contains booking which
IsOfBooking conversion own = IsOfConversion conversion own
