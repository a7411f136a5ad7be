-- The entries of a book as far as the sights below a bound use them.
use Rattle.std.proofs.Common.{◌≡◌, ℕ, zero, suc, ◌+◌, ◌-◌, ◌^◌, ◌<◌, ◌≤◌, Bool, true, false, cond, ◌&&◌, ◌==◌, min, List, [], ◌∷◌, ◌++◌, Option, Some, None, length, refl, sym, ap, ◌∙◌, arith, length-append}
use Rattle.std.specs.Prelude.{is_some, nat_le, option_and_then}
use Rattle.std.specs.Option.{option_map_or}
use Rattle.std.proofs.lemmas.Bool.{and_parts, and_from, and_right, ne_eqb, cond-false, cond-true, leb-true, true≢false}
use Rattle.std.proofs.lemmas.List.{append-nil}
use Rattle.std.proofs.lemmas.Option.{none-some}
use Rattle.th_book.specs.Lines.{ParsedLine, holds, is_setup, is_sight}
use Rattle.th_book.specs.Places.{last_below, setup_of, words_at}
use Rattle.th_entries.specs.Below.{all_below, count_below}
use Rattle.th_entries.specs.Entries.{begins, begins_from, entry_line, index_of, repeated_below, uses, writes}
use Rattle.th_entries.specs.Inside.Running.{with_sight, with_word}
use Rattle.th_entries.specs.Inside.Tallies.{Bounds, both_at, candidate, candidate_at, open_at, opens, place_in, upto}
use Rattle.th_entries.specs.declared.entries.HeightKind.{HeightKind}
use Rattle.th_entries.specs.declared.entries.HeightKind.TheVariants.{Reflector, Instrument}
use Rattle.th_entries.proofs.BelowLemmas.{count-le, last-lt, last-true, none-below}

-- how many entries there are does not depend on the bounds
one-same : (book : ℕ) (parsed : List ParsedLine) (kind : HeightKind) (bound : Bounds) (line : ℕ) → length (candidate_at book parsed kind bound line) ≡ length (candidate_at 0 parsed kind (upto 0 0) line)
one-same book parsed kind bound line = go (opens parsed kind line)
  where
    go : (is : Bool) → length (cond is (candidate book parsed kind bound line ∷ []) []) ≡ length (cond is (candidate 0 parsed kind (upto 0 0) line ∷ []) [])
    go true = refl
    go false = refl

as-many : (book : ℕ) (parsed : List ParsedLine) (reflector instrument : Bounds) (n : ℕ) → length (all_below (both_at book parsed reflector instrument) n) ≡ length (all_below (both_at 0 parsed (upto 0 0) (upto 0 0)) n)
as-many book parsed reflector instrument zero = refl
as-many book parsed reflector instrument (suc n) =
    let all = length-append (all_below (both_at book parsed reflector instrument) n) (both_at book parsed reflector instrument n) in
    let none = length-append (all_below (both_at 0 parsed (upto 0 0) (upto 0 0)) n) (both_at 0 parsed (upto 0 0) (upto 0 0) n) in
    let line = length-append (candidate_at book parsed Reflector reflector n) (candidate_at book parsed Instrument instrument n) in
    let none_line = length-append (candidate_at 0 parsed Reflector (upto 0 0) n) (candidate_at 0 parsed Instrument (upto 0 0) n) in
    omega (arith, all, none, line, none_line, as-many book parsed reflector instrument n, one-same book parsed Reflector reflector n, one-same book parsed Instrument instrument n)

-- the place of an entry is behind those that come before it
pub place-reflector : (book : ℕ) (parsed : List ParsedLine) (reflector instrument : Bounds) (line : ℕ) → length (all_below (both_at book parsed reflector instrument) line) ≡ place_in parsed Reflector line
place-reflector book parsed reflector instrument line =
    as-many book parsed reflector instrument line ∙ ap length (sym (append-nil (all_below (both_at 0 parsed (upto 0 0) (upto 0 0)) line)))

pub place-instrument : (book : ℕ) (parsed : List ParsedLine) (reflector instrument own : Bounds) (line : ℕ) → length (all_below (both_at book parsed reflector instrument) line ++ candidate_at book parsed Reflector own line) ≡ place_in parsed Instrument line
place-instrument book parsed reflector instrument own line =
    let all = length-append (all_below (both_at book parsed reflector instrument) line) (candidate_at book parsed Reflector own line) in
    let none = length-append (all_below (both_at 0 parsed (upto 0 0) (upto 0 0)) line) (candidate_at 0 parsed Reflector (upto 0 0) line) in
    omega (arith, all, none, as-many book parsed reflector instrument line, one-same book parsed Reflector own line)

-- a sight that does not use a line leaves its entry
pub unused : (book : ℕ) (parsed : List ParsedLine) (kind : HeightKind) (n words line : ℕ) → uses (index_of kind) parsed line n ≡ false → candidate book parsed kind (upto n words) line ≡ candidate book parsed kind (upto (suc n) words) line
unused book parsed kind n words line none =
    let sights : count_below (uses (index_of kind) parsed line) n ≡ count_below (uses (index_of kind) parsed line) (suc n) = omega (arith, ap {B = ℕ} (λ (own : Bool). cond own 1 0) none) in
    let last_line : option_map_or (λ (own : ℕ). own + 1) (last_below (uses (index_of kind) parsed line) n) 0 ≡ option_map_or (λ (own : ℕ). own + 1) (last_below (uses (index_of kind) parsed line) (suc n)) 0 = ap (λ own. option_map_or (λ (own : ℕ). own + 1) own 0) (sym (cond-false (uses (index_of kind) parsed line n) (Some n) (last_below (uses (index_of kind) parsed line) n) none)) in
    cc

pub unused-at : (book : ℕ) (parsed : List ParsedLine) (kind : HeightKind) (n words line : ℕ) → uses (index_of kind) parsed line n ≡ false → candidate_at book parsed kind (upto n words) line ≡ candidate_at book parsed kind (upto (suc n) words) line
unused-at book parsed kind n words line none = ap (λ own. cond (opens parsed kind line) (own ∷ []) []) (unused book parsed kind n words line none)

-- a line without a word of it leaves its entry
pub unwritten : (book : ℕ) (parsed : List ParsedLine) (kind : HeightKind) (sights n line : ℕ) → writes (index_of kind) parsed line n ≡ false → candidate book parsed kind (upto sights n) line ≡ candidate book parsed kind (upto sights (suc n)) line
unwritten book parsed kind sights n line none =
    let own = writes (index_of kind) parsed line in
    let repeated : repeated_below (index_of kind) parsed n line ≡ repeated_below (index_of kind) parsed (suc n) line = ap (λ found. option_map_or (λ (own : ℕ). own + 1) found (line + 1)) (sym (cond-false (own n) (Some n) (last_below own n) none)) in
    cc

-- a line with a word of it is the last one that repeats it
pub written-once-more : (book : ℕ) (parsed : List ParsedLine) (kind : HeightKind) (sights n line : ℕ) → writes (index_of kind) parsed line n ≡ true → with_word (n + 1) (candidate book parsed kind (upto sights n) line) ≡ candidate book parsed kind (upto sights (suc n)) line
written-once-more book parsed kind sights n line is =
    let own = writes (index_of kind) parsed line in
    let repeated : n + 1 ≡ repeated_below (index_of kind) parsed (suc n) line = ap (λ found. option_map_or (λ (own : ℕ). own + 1) found (line + 1)) (sym (cond-true (own n) (Some n) (last_below own n) is)) in
    cc

-- which entry a line writes: the one that is open behind it
pub writes-open : (index : ℕ) (parsed : List ParsedLine) (n line : ℕ) → holds index (words_at parsed n) ≡ true → writes index parsed line n ≡ option_map_or (λ own. own == line) (open_at index parsed (suc n)) false
writes-open index parsed n line held = ap (λ own. own && option_map_or (λ own. own == line) (open_at index parsed (suc n)) false) held

pub writes-none : (index : ℕ) (parsed : List ParsedLine) (n line : ℕ) → holds index (words_at parsed n) ≡ false → writes index parsed line n ≡ false
writes-none index parsed n line held = ap (λ own. own && option_map_or (λ own. own == line) (open_at index parsed (suc n)) false) held

-- no line before an entry has a word of it
pub unwritten-before : (index : ℕ) (parsed : List ParsedLine) (line k : ℕ) → k < line → writes index parsed line k ≡ false
unwritten-before index parsed line k before = ap (λ own. holds index (words_at parsed k) && own) (go (setup_of parsed (suc k))) ∙ and_right (holds index (words_at parsed k)) false refl
  where
    at : (setup : ℕ) (found : Option ℕ) → last_below (begins_from parsed index setup) (suc k) ≡ found → option_map_or (λ own. own == line) found false ≡ false
    at setup None is = refl
    at setup (Some own) is = ne_eqb own line (λ same. omega (arith, same, before, last-lt (begins_from parsed index setup) (suc k) own is))

    go : (setup : Option ℕ) → option_map_or (λ own. own == line) (option_and_then (λ setup. last_below (begins_from parsed index setup) (suc k)) setup) false ≡ false
    go None = refl
    go (Some setup) = at setup (last_below (begins_from parsed index setup) (suc k)) refl

-- a sight that uses it is one more
pub used-once-more : (book : ℕ) (parsed : List ParsedLine) (kind : HeightKind) (n words line : ℕ) → n < 4294967295 → uses (index_of kind) parsed line n ≡ true → with_sight (n + 1) (candidate book parsed kind (upto n words) line) ≡ candidate book parsed kind (upto (suc n) words) line
used-once-more book parsed kind n words line small is =
    let own = uses (index_of kind) parsed line in
    let sights : min (count_below own n + 1) (2 ^ 32 - 1) ≡ count_below own (suc n) = omega (arith, count-le own n, small, ap {B = ℕ} (λ (own : Bool). cond own 1 0) is) in
    let last : n + 1 ≡ option_map_or (λ (own : ℕ). own + 1) (last_below own (suc n)) 0 = ap (λ found. option_map_or (λ (own : ℕ). own + 1) found 0) (sym (cond-true (own n) (Some n) (last_below own n) is)) in
    cc

-- which lines a sight uses: only that of the height that is open behind it
pub uses-open : (index : ℕ) (parsed : List ParsedLine) (n line : ℕ) → is_sight (words_at parsed n) ≡ true → is_setup (words_at parsed n) ≡ false → uses index parsed line n ≡ option_map_or (λ own. own == line) (open_at index parsed (suc n)) false
uses-open index parsed n line sight none =
    ap (λ own. own && option_map_or (λ own. own == line) (entry_line index parsed n) false) sight
    ∙ ap (λ (setup : Option ℕ). option_map_or (λ own. own == line) (option_and_then (λ from. last_below (begins_from parsed index from) (suc n)) setup) false) (sym (cond-false (is_setup (words_at parsed n)) (Some n) (setup_of parsed n) none))

-- an open height is in a setup
pub open-opens : (kind : HeightKind) (parsed : List ParsedLine) (n line : ℕ) → open_at (index_of kind) parsed n ≡ Some line → (line < n) × (opens parsed kind line ≡ true)
open-opens kind parsed n line h = go (setup_of parsed n) refl h
  where
    some : (found : Option ℕ) (place : ℕ) → ((found ≡ None) → ⊥) → is_some found ≡ true
    some None place h = absurd (h refl)
    some (Some own) place h = refl

    begun : (setup : ℕ) → setup_of parsed n ≡ Some setup → setup ≤ line → is_some (setup_of parsed (suc line)) ≡ true
    begun setup is before =
        some (setup_of parsed (suc line)) setup (λ none. true≢false (sym (last-true (λ own. is_setup (words_at parsed own)) n setup is) ∙ none-below (λ own. is_setup (words_at parsed own)) (suc line) setup none (omega (arith, before))))

    go : (setup : Option ℕ) → setup_of parsed n ≡ setup → option_and_then (λ from. last_below (begins_from parsed (index_of kind) from) n) setup ≡ Some line → (line < n) × (opens parsed kind line ≡ true)
    go None is e = absurd (none-some line e)
    go (Some setup) is e =
        let parts = and_parts (nat_le setup line) (begins (index_of kind) parsed line) (last-true (begins_from parsed (index_of kind) setup) n line e) in
        (last-lt (begins_from parsed (index_of kind) setup) n line e, and_from _ _ parts.1 (begun setup is (leb-true setup line parts.0)))
