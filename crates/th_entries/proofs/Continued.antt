-- The last entry that begins has the length of the last word.
use Rattle.std.proofs.Common.{◌≡◌, ℕ, zero, suc, ◌<◌, ◌≤◌, Bool, true, false, not, cond, ◌&&◌, List, Option, Some, None, refl, sym, ap, ◌∙◌, arith}
use Rattle.std.specs.Cmp.{signed_Decides}
use Rattle.std.specs.Option.{option_map_or}
use Rattle.std.specs.Ordering.{int_eq}
use Rattle.std.specs.Prelude.{ℤ, nat_le, option_and_then, option_map}
use Rattle.std.proofs.lemmas.Bool.{false≢true, leb-true}
use Rattle.th_book.specs.Lines.{ParsedLine, holds, is_setup}
use Rattle.th_book.specs.Places.{holds_from, last_below, setup_of, words_at}
use Rattle.th_entries.specs.Entries.{begins_from, continues, last_before, length_at}
use Rattle.th_entries.proofs.BelowLemmas.{last-after, last-is, last-true}

-- a setup that runs at a place runs behind each line from its own on
pub same-running : (parsed : List ParsedLine) (from bound k : ℕ) → setup_of parsed bound ≡ Some from → from ≤ k → k < bound → setup_of parsed (suc k) ≡ Some from
same-running parsed from bound k runs after below =
    last-is begun (suc k) from (omega (arith, after)) (last-true begun bound from runs)
    (λ j behind within. last-after begun bound from j runs behind (omega (arith, within, below)))
  where
    begun : ℕ → Bool
    begun place = is_setup (words_at parsed place)

-- a line that continues an entry has the length of the word before it
same-length : (index : ℕ) (parsed : List ParsedLine) (n : ℕ) (found : Option ℕ) → option_map_or (λ before. int_eq (length_at index parsed before) (length_at index parsed n)) found false ≡ true → option_map (length_at index parsed) found ≡ Some (length_at index parsed n)
same-length index parsed n None h = absurd (false≢true h)
same-length index parsed n (Some before) h = ap Some ((signed_Decides (length_at index parsed before) (length_at index parsed n)).0 h)

pub last-length : (index : ℕ) (parsed : List ParsedLine) (from n : ℕ) → ((k : ℕ) → from ≤ k → k < n → setup_of parsed (suc k) ≡ Some from) → option_map (length_at index parsed) (last_below (begins_from parsed index from) n) ≡ option_map (length_at index parsed) (last_below (holds_from parsed index from) n)
last-length index parsed from zero runs = refl
last-length index parsed from (suc n) runs =
    go (nat_le from n) (holds index (words_at parsed n)) (continues index parsed n) refl refl (last-length index parsed from n (λ k after below. runs k after (omega (arith, below))))
  where
    lengths : Option ℕ → Option ℤ
    lengths = option_map (length_at index parsed)

    begun : Option ℕ
    begun = last_below (begins_from parsed index from) n

    held : Option ℕ
    held = last_below (holds_from parsed index from) n

    before : nat_le from n ≡ true → last_before index parsed n ≡ held
    before late = ap (option_and_then (λ own. last_below (holds_from parsed index own) n)) (runs n (leb-true from n late) (omega arith))

    go : (late holding continued : Bool) → nat_le from n ≡ late → continues index parsed n ≡ continued → lengths begun ≡ lengths held → lengths (cond (late && (holding && not continued)) (Some n) begun) ≡ lengths (cond (late && holding) (Some n) held)
    go false holding continued is own rest = rest
    go true false continued is own rest = rest
    go true true false is own rest = refl
    go true true true is own rest =
        rest ∙ ap lengths (sym (before is)) ∙ same-length index parsed n (last_before index parsed n) own
