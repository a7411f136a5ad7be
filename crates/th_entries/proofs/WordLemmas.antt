-- The lines with a word of an entry: from its own on, with its height.
use Rattle.std.proofs.Common.{◌≡◌, ℕ, suc, ◌+◌, ◌<◌, ◌≤◌, Bool, true, false, cond, ◌&&◌, ◌==◌, ℤ, List, Option, Some, None, refl, sym, ap, ◌∙◌, arith}
use Rattle.std.specs.Prelude.{nat_le, option_and_then, option_map}
use Rattle.std.specs.Option.{option_map_or}
use Rattle.std.proofs.lemmas.Bool.{and_from, and_parts, cond-true, eqb-true, false≢true, le-leb}
use Rattle.th_book.specs.Lines.{ParsedLine, holds, is_setup}
use Rattle.th_book.specs.Places.{holds_from, last_below, setup_of, words_at}
use Rattle.th_entries.specs.Entries.{begins_from, entry_behind, length_at, writes}
use Rattle.th_entries.proofs.BelowLemmas.{last-lt}
use Rattle.th_entries.proofs.Continued.{last-length, same-running}

-- what it is that a line writes an entry
record IsWritten (index : ℕ) (parsed : List ParsedLine) (line place : ℕ) : Type 0 where
  pub held : holds index (words_at parsed place) ≡ true
  pub setup : ℕ
  pub running : setup_of parsed (suc place) ≡ Some setup
  pub last : last_below (begins_from parsed index setup) (suc place) ≡ Some line

written_by : (index : ℕ) (parsed : List ParsedLine) (line place : ℕ) → writes index parsed line place ≡ true → IsWritten index parsed line place
written_by index parsed line place h = go (setup_of parsed (suc place)) refl parts.1
  where
    parts : (holds index (words_at parsed place) ≡ true) × (option_map_or (λ own. own == line) (entry_behind index parsed place) false ≡ true)
    parts = and_parts _ _ h

    found : (last : Option ℕ) → option_map_or (λ own. own == line) last false ≡ true → last ≡ Some line
    found None e = absurd (false≢true e)
    found (Some own) e = ap Some (eqb-true own line e)

    go : (setup : Option ℕ) → setup_of parsed (suc place) ≡ setup → option_map_or (λ own. own == line) (option_and_then (λ from. last_below (begins_from parsed index from) (suc place)) setup) false ≡ true → IsWritten index parsed line place
    go None is e = absurd (false≢true e)
    go (Some setup) is e = record { held = parts.0; setup = setup; running = is; last = found _ e }

pub written-length : (index : ℕ) (parsed : List ParsedLine) (line place : ℕ) → writes index parsed line place ≡ true → length_at index parsed place ≡ length_at index parsed line
written-length index parsed line place h =
    let same = last-length index parsed w.setup (suc place) (λ k after below. same-running parsed w.setup (suc place) k w.running after below) in
    let both : Some (length_at index parsed line) ≡ Some (length_at index parsed place) =
    sym (ap (option_map (length_at index parsed)) w.last) ∙ same ∙ ap (option_map (length_at index parsed)) here
    in
    cc
  where
    w : IsWritten index parsed line place
    w = written_by index parsed line place h

    from : w.setup ≤ place
    from = omega (arith, last-lt (λ own. is_setup (words_at parsed own)) (suc place) w.setup w.running)

    here : last_below (holds_from parsed index w.setup) (suc place) ≡ Some place
    here = cond-true (holds_from parsed index w.setup place) _ _ (and_from (nat_le w.setup place) (holds index (words_at parsed place)) (le-leb w.setup place from) w.held)

pub written-behind : (index : ℕ) (parsed : List ParsedLine) (line place : ℕ) → writes index parsed line place ≡ true → line ≤ place
written-behind index parsed line place h =
    let w = written_by index parsed line place h in
    omega (arith, last-lt (begins_from parsed index w.setup) (suc place) line w.last)
