use Rattle.std.proofs.Common.{◌≡◌, ℕ, suc, List, Option, Some, None, sym, ap, ◌∙◌}
use Rattle.std.specs.Prelude.{option_and_then, option_map}
use Rattle.std.proofs.lemmas.Bool.{cond-false}
use Rattle.std.proofs.lemmas.Option.{none-some, same_Some}
use Rattle.th_book.specs.Books.{known}
use Rattle.th_book.specs.Lines.{ParsedLine, is_setup, length_in}
use Rattle.th_book.specs.Places.{height_at, holds_from, last_below, setup_of, words_at}
use Rattle.th_entries.specs.Entries.{begins_from, length_at}
use Rattle.th_entries.proofs.Continued.{last-length, same-running}
use Rattle.th_entries.proofs.Uses.{IsUsed, no-setup, used}
use Rattle.th_entries.proofs.laws.entry_has_the_height_of_its_sights.Goals as goal

-- the word that a sight uses has the length of the entry that it uses
height : (index : ℕ) (parsed : List ParsedLine) (line place : ℕ) → IsUsed index parsed line place → known (height_at index parsed place) ≡ length_at index parsed line
height index parsed line place u =
    ap (λ setup. known (option_and_then (λ k. length_in index (words_at parsed k)) (option_and_then (λ from. last_below (holds_from parsed index from) (suc place)) setup))) u.running
    ∙ go (last_below (holds_from parsed index u.setup) (suc place)) (sym words ∙ ap (option_map (length_at index parsed)) u.last)
  where
    behind : setup_of parsed (suc place) ≡ Some u.setup
    behind = cond-false (is_setup (words_at parsed place)) (Some place) (setup_of parsed place) (no-setup parsed place u.sight) ∙ u.running

    words : option_map (length_at index parsed) (last_below (begins_from parsed index u.setup) (suc place)) ≡ option_map (length_at index parsed) (last_below (holds_from parsed index u.setup) (suc place))
    words = last-length index parsed u.setup (suc place) (λ k after below. same-running parsed u.setup (suc place) k behind after below)

    go : (found : Option ℕ) → option_map (length_at index parsed) found ≡ Some (length_at index parsed line) → known (option_and_then (λ k. length_in index (words_at parsed k)) found) ≡ length_at index parsed line
    go None e = absurd (none-some (length_at index parsed line) e)
    go (Some own) e = same_Some (length_at index parsed own) (length_at index parsed line) e

pub returns : goal.returns
returns c = λ index parsed line place is. height index parsed line place (used index parsed line place is)
