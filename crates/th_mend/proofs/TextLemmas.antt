-- The mended text of a book as its lines are mended one after the other.
use Rattle.std.proofs.Common.{◌≡◌, ◌+◌, ℕ, List, [], ◌∷◌, ◌++◌, Result, Ok, Err, length, arith, refl, sym, ap, ◌∙◌, append_assoc}
use Rattle.std.proofs.lemmas.List.{append-nil}
use Rattle.th_mend.specs.Ends.{ended_lines}
use Rattle.th_mend.specs.MendedBooks.{mended_from, mended_text, then_text}
use Rattle.th_mend.specs.MendedLines.{mended_line}
use Rattle.th_mend.specs.declared.edits.Edit.{Edit}
use Rattle.th_mend.specs.declared.faults.RowFault.{RowFault}

-- a text before that of later lines, or the fault of these
abbrev pub text_before : List ℕ → Result (List ℕ) RowFault → Result (List ℕ) RowFault
text_before text (Ok later) = Ok (text ++ later)
text_before text (Err fault) = Err fault

-- all lines have this text and then that of the lines that are left
abbrev pub SoFar : List Edit → List ℕ → List ℕ → ℕ → List ℕ → Type 0
SoFar edits bytes left place text = mended_text edits bytes ≡ text_before text (mended_from edits place (ended_lines left))

-- behind the last line
pub all_lines : (edits : List Edit) (bytes left : List ℕ) (place : ℕ) (text : List ℕ) → SoFar edits bytes left place text → length left ≡ 0 → mended_text edits bytes ≡ Ok text
unfolding ended_lines
all_lines edits bytes [] place text so_far none = so_far ∙ ap Ok (append-nil text)
all_lines edits bytes (byte ∷ left) place text so_far none = absurd (omega (arith, none))
