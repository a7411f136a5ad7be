-- The lines of notes on standard error.
use Rattle.std.specs.Prelude.{◌++◌, ℕ, List, flat_map}
use Rattle.th_messages.specs.Notes.{no_sight_note}
use Rattle.th_messages.specs.Remarks.{remarks_lines}
use Rattle.th_runs.specs.declared.notes.Notes.{Notes}

-- the lines of notes: those of the books without a sight in their order, and then the remarks on the survey
abbrev pub notes_lines : Notes → List ℕ
notes_lines notes = flat_map no_sight_note notes.books.items ++ remarks_lines notes.remarks
