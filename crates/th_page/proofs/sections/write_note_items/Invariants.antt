use Rattle.std.proofs.Common.{◌≡◌, ◌++◌, drop, map}
use Rattle.std.specs.List.{flat_map}
use Rattle.th_page.specs.Sections.{note_item}
use Rattle.th_page.proofs.sections.write_note_items.Given as goal

abbrev pub invariant-loop-note : goal.invariant-loop-note
invariant-loop-note l = l.page ++ flat_map note_item (map (λ note. note.now) (drop l.note-index l.notes)) ≡ l.fn.page ++ flat_map note_item (map (λ note. note.now) l.notes)
