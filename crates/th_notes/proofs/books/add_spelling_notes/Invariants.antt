use Rattle.std.proofs.Common.{◌≡◌, ◌++◌, drop, map}
use Rattle.th_notes.specs.declared.notes.Note.TheVariants.{Respelled}
use Rattle.th_notes.proofs.books.add_spelling_notes.Given as goal

abbrev pub invariant-loop-spelling : goal.invariant-loop-spelling
invariant-loop-spelling l =
    l.notes.items ++ map (λ spelling. Respelled spelling.book spelling.line spelling.name) (drop l.spelling-index l.spellings.first.items)
    ≡ l.fn.notes.items ++ map (λ spelling. Respelled spelling.book spelling.line spelling.name) l.spellings.first.items
