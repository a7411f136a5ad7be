-- The rows of a table as its records are read one after the other.
use Rattle.std.proofs.Common.{◌≡◌, ◌+◌, ℕ, List, [], ◌∷◌, ◌++◌, Result, Ok, Err, refl, sym, ap, ◌∙◌, append_assoc}
use Rattle.th_csv.specs.Records.{Fields}
use Rattle.th_conversions.specs.Rows.{row_in}
use Rattle.th_conversions.specs.Tables.{row_first, rows_from}
use Rattle.th_conversions.specs.declared.columns.Columns.{Columns}
use Rattle.th_conversions.specs.declared.faults.DifferenceFault.{DifferenceFault}
use Rattle.th_conversions.specs.declared.rows.Row.{Row}

-- rows before those of later records, or the fault of these
abbrev pub rows_before : List Row → Result (List Row) DifferenceFault → Result (List Row) DifferenceFault
rows_before rows (Ok later) = Ok (rows ++ later)
rows_before rows (Err fault) = Err fault

-- all records have these rows and then those of the records that are left, of which the first is record `number + 1`
abbrev pub SoFar : Columns → List Fields → List Fields → List Row → ℕ → Type 0
SoFar columns all left rows number = rows_from columns 2 all ≡ rows_before rows (rows_from columns (number + 1) left)

-- one row more before the others
before-push : (number : ℕ) (rows : List Row) (row : Row) (later : Result (List Row) DifferenceFault) → rows_before rows (row_first number (Ok row) later) ≡ rows_before (rows ++ row ∷ []) later
before-push number rows row (Ok later) = ap Ok (sym (append_assoc rows (row ∷ []) later))
before-push number rows row (Err fault) = refl

-- the first of the records that are left
next_row : (columns : Columns) (all left later : List Fields) (this : Fields) (rows : List Row) (number : ℕ) → SoFar columns all left rows number → left ≡ this ∷ later
    → rows_from columns 2 all ≡ rows_before rows (row_first (number + 1) (row_in columns this) (rows_from columns (number + 1 + 1) later))
next_row columns all left later this rows number so_far first = so_far ∙ ap (λ left. rows_before rows (rows_from columns (number + 1) left)) first

-- a record with a row
pub read_row : (columns : Columns) (all left later : List Fields) (this : Fields) (rows : List Row) (number : ℕ) (row : Row) → SoFar columns all left rows number → left ≡ this ∷ later
    → row_in columns this ≡ Ok row → SoFar columns all later (rows ++ row ∷ []) (number + 1)
read_row columns all left later this rows number row so_far first is =
    next_row columns all left later this rows number so_far first
    ∙ ap (λ read. rows_before rows (row_first (number + 1) read (rows_from columns (number + 1 + 1) later))) is
    ∙ before-push (number + 1) rows row (rows_from columns (number + 1 + 1) later)
