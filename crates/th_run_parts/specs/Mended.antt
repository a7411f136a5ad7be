-- What a run that mends a book must return.
use Rattle.std.specs.Prelude.{◌≡◌, ◌≢◌, ◌⊎◌, List, ℕ}
use Rattle.std.specs.List.{Contains}
use Rattle.th_book.specs.declared.faults.BookKind.TheVariants as book_kind
use Rattle.th_mend.specs.MendedBooks.{mended}
use Rattle.th_mend.specs.declared.faults.MendFault.{MendFault}
use Rattle.th_mend.specs.declared.faults.MendFault.TheVariants as mend_fault
use Rattle.th_mend.specs.Tables.{changes_of}
use Rattle.th_mend.specs.declared.changes.Change.{Change}
use Rattle.th_mend.specs.declared.change_faults.ChangeKind.TheVariants as change_kind
use Rattle.th_inputs.specs.declared.inputs.Input.TheVariants as input
use Rattle.th_run_parts.specs.Inputs.{Given, Owed, and_then, or_refused, owed_for}
use Rattle.th_run_parts.specs.declared.refusals.Refusal.{Refusal}
use Rattle.th_run_parts.specs.declared.refusals.Refusal.TheVariants as refusal
use Rattle.th_run_parts.specs.Booked.{booking}

-- the refusal for why there is no mended book; the book is book 1
abbrev pub refusal_for : MendFault → Refusal
refusal_for (mend_fault.Book fault) = refusal.Book 1 fault
refusal_for (mend_fault.Row fault) = refusal.Unfit fault
refusal_for (mend_fault.Mended fault) = refusal.Mended fault
refusal_for mend_fault.NoMemory = refusal.NoMemory

-- what must be returned for a table of changes: them, or its first fault
abbrev pub owed_for_changes : Given → Owed (List Change)
owed_for_changes = owed_for input.Changes (λ text. or_refused refusal.Changes (changes_of text))

-- what must be returned for a book with these changes: the mended book, or why there is none
abbrev pub owed_for_changed : List Change → Given → Owed (List ℕ)
owed_for_changed changes = owed_for (input.Book 1) (λ text. or_refused refusal_for (mended changes text))

-- what must be returned for a table of changes and a book; the table comes first
abbrev pub owed_for_mended : Given → Given → Owed (List ℕ)
owed_for_mended changes book = and_then (owed_for_changes changes) (λ own. owed_for_changed own book)

-- A refusal for the table of changes, or out of memory. A fault in the refusal is never `NoMemory`.
abbrev pub IsOfChanges : Refusal → Type 0
IsOfChanges (refusal.Changes fault) = fault.kind ≢ change_kind.NoMemory
IsOfChanges (refusal.Read which) = which ≡ input.Changes
IsOfChanges refusal.NoMemory = Unit {0}
IsOfChanges other = ⊥

-- A refusal for the book or for the mended book, or out of memory. A fault in the refusal is never `NoMemory`.
abbrev pub IsOfChanged : Refusal → Type 0
IsOfChanged (refusal.Book number fault) = (number ≡ 1) × (fault.kind ≢ book_kind.NoMemory)
IsOfChanged (refusal.Unfit fault) = Unit {0}
IsOfChanged (refusal.Mended fault) = fault.kind ≢ book_kind.NoMemory
IsOfChanged (refusal.Read which) = which ≡ input.Book 1
IsOfChanged refusal.NoMemory = Unit {0}
IsOfChanged other = ⊥

-- the refusal of a run that mends a book names the changes, the book or the output
abbrev pub IsOfMending : Refusal → Type 0
IsOfMending (refusal.Write which) = Contains booking which
IsOfMending own = IsOfChanges own ⊎ IsOfChanged own
