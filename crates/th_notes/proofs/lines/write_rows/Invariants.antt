use Rattle.std.proofs.Common.{◌≡◌, ◌++◌, drop}
use Rattle.std.specs.List.{flat_map}
use Rattle.th_notes.specs.Notes.{note_line}
use Rattle.th_notes.proofs.lines.write_rows.Given as goal

abbrev pub invariant-loop-note : goal.invariant-loop-note
invariant-loop-note l = l.page ++ flat_map note_line (drop l.note-index l.notes) ≡ l.fn.page ++ flat_map note_line l.notes
