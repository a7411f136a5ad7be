-- The changes of a table as its records are read one after the other.
use Rattle.std.proofs.Common.{◌≡◌, ◌+◌, ℕ, List, [], ◌∷◌, ◌++◌, Result, Ok, Err, refl, sym, ap, ◌∙◌, append_assoc}
use Rattle.th_csv.specs.Records.{Fields}
use Rattle.th_mend.specs.Fields.{change_in}
use Rattle.th_mend.specs.Tables.{change_first, changes_from}
use Rattle.th_mend.specs.declared.changes.Change.{Change}
use Rattle.th_mend.specs.declared.change_faults.ChangeFault.{ChangeFault}

-- changes before those of later records, or the fault of these
abbrev pub changes_before : List Change → Result (List Change) ChangeFault → Result (List Change) ChangeFault
changes_before changes (Ok later) = Ok (changes ++ later)
changes_before changes (Err fault) = Err fault

-- all records have these changes and then those of the records that are left, of which the first is record `number + 1`
abbrev pub SoFar : List Fields → List Fields → List Change → ℕ → Type 0
SoFar all left changes number = changes_from 2 all ≡ changes_before changes (changes_from (number + 1) left)

-- one change more before the others
before-push : (number : ℕ) (changes : List Change) (change : Change) (later : Result (List Change) ChangeFault) → changes_before changes (change_first number (Ok change) later) ≡ changes_before (changes ++ change ∷ []) later
before-push number changes change (Ok later) = ap Ok (sym (append_assoc changes (change ∷ []) later))
before-push number changes change (Err fault) = refl

-- the first of the records that are left
next_change : (all left later : List Fields) (this : Fields) (changes : List Change) (number : ℕ) → SoFar all left changes number → left ≡ this ∷ later
    → changes_from 2 all ≡ changes_before changes (change_first (number + 1) (change_in this) (changes_from (number + 1 + 1) later))
next_change all left later this changes number so_far first = so_far ∙ ap (λ left. changes_before changes (changes_from (number + 1) left)) first

-- a record with a change
pub read_change : (all left later : List Fields) (this : Fields) (changes : List Change) (number : ℕ) (change : Change) → SoFar all left changes number → left ≡ this ∷ later
    → change_in this ≡ Ok change → SoFar all later (changes ++ change ∷ []) (number + 1)
read_change all left later this changes number change so_far first is =
    next_change all left later this changes number so_far first
    ∙ ap (λ read. changes_before changes (change_first (number + 1) read (changes_from (number + 1 + 1) later))) is
    ∙ before-push (number + 1) changes change (changes_from (number + 1 + 1) later)
