use Rattle.std.specs.Prelude.{◌≡◌, ℕ, List, None}
use Rattle.th_book.specs.Lines.{ParsedLine}
use Rattle.th_entries.specs.Inside.Tallies.{IsTallied}
use Rattle.th_entries.specs.declared.seen.SeenNames.{SeenNames}
use Rattle.th_entries.specs.declared.tallies.Tally.{Tally}

-- The lines before a place of a book were seen, after books with these names: the tally holds exactly what these lines say,
-- unless memory ran out.
abbrev pub HasSeen : SeenNames → ℕ → List ParsedLine → ℕ → Tally → Type 0
HasSeen names number parsed place tally = tally.failed ≡ None → IsTallied names number parsed place tally
