-- Notes of one kind, of which the first are listed and the rest is counted.
use Rattle.std.specs.Prelude.{ℕ, ◌-◌, ◌++◌, List, [], ◌∷◌, if◌then◌else◌, nat_lt, take}
use Rattle.th_entries.specs.Limits.{max_listed}
use Rattle.th_entries.specs.Listed.{counted}
use Rattle.th_notes.specs.declared.notes.Kind.{Kind}
use Rattle.th_notes.specs.declared.notes.Note.{Note}
use Rattle.th_notes.specs.declared.notes.Note.TheVariants.{More}

-- where there are more of a kind than are listed, a note of how many more
abbrev pub rest_note : Kind → ℕ → List Note
rest_note kind count = if nat_lt max_listed count then More kind (count - max_listed) ∷ [] else []

-- the first notes of a kind, as many as are listed at most, and then how many more there are
abbrev pub limited : Kind → List Note → List Note
limited kind notes = take max_listed notes ++ rest_note kind (counted notes)
