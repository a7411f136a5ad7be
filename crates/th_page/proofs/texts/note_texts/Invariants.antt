use Rattle.std.proofs.Common.{◌≡◌, ◌++◌, drop, map}
use Rattle.th_notes.specs.Notes.{note_text}
use Rattle.th_page.proofs.texts.note_texts.Given as goal

abbrev pub invariant-loop-note : goal.invariant-loop-note
invariant-loop-note l = map (λ text. text.items) l.texts.items ++ map note_text (drop l.note-index l.notes) ≡ map note_text l.notes
