use Rattle.std.proofs.Common.{◌≡◌, ◌<◌, ◌≤◌, ◌⊎◌, inl, inr, ℕ, true, List, Some, length, sym, ◌∙◌}
use Rattle.std.proofs.lemmas.Bool.{cases_lt, false≢true}
use Rattle.th_book.specs.Lines.{ParsedLine}
use Rattle.th_book.specs.Places.{last_below}
use Rattle.th_entries.specs.Entries.{uses}
use Rattle.th_entries.proofs.BelowLemmas.{last-after, last-true}
use Rattle.th_entries.proofs.Uses.{between, used, used-le, uses-from}
use Rattle.th_entries.proofs.laws.sights_from_line_to_last_use_it.Goals as goal

-- no sight behind the last one uses the line
up_to : (index : ℕ) (parsed : List ParsedLine) (line last place : ℕ) → last_below (uses index parsed line) (length parsed) ≡ Some last → place < length parsed → uses index parsed line place ≡ true → (last < place) ⊎ (place ≤ last) → place ≤ last
up_to index parsed line last place found within is (inr before) = before
up_to index parsed line last place found within is (inl behind) =
    absurd (false≢true (sym (last-after (uses index parsed line) (length parsed) last place found behind within) ∙ is))

pub returns-clause-all : goal.returns-clause-all
returns-clause-all c = λ index parsed line last place found sight after before.
    uses-from index parsed line place (between index parsed line last place (used index parsed line last (last-true (uses index parsed line) (length parsed) last found)) sight after before)

pub returns-clause-others : goal.returns-clause-others
returns-clause-others c = λ index parsed line last place found within is.
    (used-le index parsed line place (used index parsed line place is), up_to index parsed line last place found within is (cases_lt last place))
