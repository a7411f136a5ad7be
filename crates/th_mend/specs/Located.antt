-- What is known of the changes of a book after some of its lines.
use Rattle.std.specs.Prelude.{ℕ, List}
use Rattle.th_book.specs.Lines.{ParsedLine}
use Rattle.th_mend.specs.declared.changes.Change.{Change}
use Rattle.th_mend.specs.Inside.Forces.{IsLocating}
use Rattle.th_mend.specs.declared.sought.Locating.{Locating}

-- the lines below a place were seen for these changes: what is known of each is what these lines say
abbrev pub HasLocated : List Change → ℕ → List ParsedLine → ℕ → Locating → Type 0
HasLocated changes number parsed place locating = IsLocating changes number parsed place locating
