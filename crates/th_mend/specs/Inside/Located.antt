-- From what is known of changes to edits.
use Rattle.std.specs.Prelude.{ℕ, ◌+◌, Bool, List, [], ◌∷◌, ◌++◌, Result, Ok, Err}
use Rattle.std.specs.List.{list_any}
use Rattle.th_mend.specs.Edits.{clash, edit_from, edit_then, unless_clash}
use Rattle.th_mend.specs.declared.edits.Edit.{Edit}
use Rattle.th_mend.specs.declared.faults.MendKind.{MendKind}
use Rattle.th_mend.specs.declared.faults.RowFault.{RowFault}
use Rattle.th_mend.specs.declared.sought.Sought.{Sought}

-- a fault of this record
abbrev pub in_row : ℕ → Result Edit MendKind → Result Edit RowFault
in_row row (Err kind) = Err (record { row = row; kind = kind })
in_row row (Ok edit) = Ok edit

-- an edit clashes with some other
abbrev pub some_clash : Edit → List Edit → Bool
some_clash edit others = list_any (clash edit) others

-- the earlier edits and those of changes by what is known of them, of which the first is in record `row`
abbrev pub edits_then : List Edit → ℕ → List Sought → Result (List Edit) RowFault
edits_then earlier row [] = Ok earlier
edits_then earlier row (own ∷ later) =
    edit_then row (unless_clash earlier (edit_from row own.change own.spot)) (λ edit. edits_then (earlier ++ edit ∷ []) (row + 1) later)
