-- The notes of a review on names.
use Rattle.std.specs.Prelude.{ℕ, ◌==◌, ◌||◌, Bool, false, List, [], ◌∷◌, if◌then◌else◌}
use Rattle.std.specs.List.{flat_map}
use Rattle.th_notes.specs.Limited.{limited}
use Rattle.th_notes.specs.declared.notes.Kind.TheVariants.{Formulas}
use Rattle.th_notes.specs.declared.notes.Note.{Note}
use Rattle.th_notes.specs.declared.notes.Note.TheVariants.{Formula}

-- whether a spreadsheet takes a name for a formula: it begins with =, +, - or @
abbrev pub is_formula : List ℕ → Bool
is_formula [] = false
is_formula (byte ∷ rest) = byte == 61 || (byte == 43 || (byte == 45 || byte == 64))

-- the note on a name, if it reads as a formula
abbrev pub formula_note : List ℕ → List Note
formula_note name = if is_formula name then Formula name ∷ [] else []

-- the notes on the names of points that read as formulas, in their order
abbrev pub formula_notes : List (List ℕ) → List Note
formula_notes names = limited Formulas (flat_map formula_note names)
