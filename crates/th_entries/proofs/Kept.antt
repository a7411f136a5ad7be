-- The entries that sights use are those of the book.
use Rattle.std.proofs.Common.{◌≡◌, ℕ, zero, suc, ◌+◌, Bool, true, false, cond, List, [], ◌∷◌, ◌++◌, Option, Some, None, filter, length, refl, ap, ◌∙◌, arith}
use Rattle.std.specs.Prelude.{is_some, nat_lt, option_map, option_to_list}
use Rattle.std.specs.Option.{option_map_or}
use Rattle.std.proofs.lemmas.Bool.{and_from, cond-true, lt-ltb}
use Rattle.std.proofs.lemmas.List.Elements.{filter-append}
use Rattle.th_book.specs.Lines.{ParsedLine}
use Rattle.th_book.specs.Places.{last_below, setup_of, station_at}
use Rattle.th_book.specs.Books.{known_name}
use Rattle.th_entries.specs.Below.{all_below, count_below}
use Rattle.th_entries.specs.Entries.{begins, entries_at, entries_of, entry_at, entry_until, index_of, uses}
use Rattle.th_entries.specs.Inside.Tallies.{Bounds, both_at, candidate, candidate_at, opens, upto}
use Rattle.th_entries.specs.declared.entries.Entry.{Entry}
use Rattle.th_entries.specs.declared.entries.HeightKind.{HeightKind}
use Rattle.th_entries.specs.declared.entries.HeightKind.TheVariants.{Reflector, Instrument}
use Rattle.th_entries.proofs.BelowLemmas.{count-none, count-some, last-true}
use Rattle.th_entries.proofs.Uses.{IsUsed, same-setup, same-station, used, used-begins, used-le}

-- an entry that a sight uses
abbrev pub is_used : Entry → Bool
is_used entry = nat_lt 0 entry.sights

-- all lines were seen
abbrev pub whole : List ParsedLine → Bounds
whole parsed = upto (length parsed) (length parsed)

-- a line that a sight uses opens an entry
used-opens : (kind : HeightKind) (parsed : List ParsedLine) (line last : ℕ) → IsUsed (index_of kind) parsed line last → opens parsed kind line ≡ true
used-opens kind parsed line last u =
    and_from (begins (index_of kind) parsed line) (is_some (setup_of parsed (suc line))) (used-begins (index_of kind) parsed line last u).1
    (ap is_some (same-setup (index_of kind) parsed line last (suc line) u (omega arith) (omega (arith, used-le (index_of kind) parsed line last u))))

-- of each line what a sight uses is left
kept-one : (book : ℕ) (parsed : List ParsedLine) (kind : HeightKind) (line : ℕ) → filter is_used (candidate_at book parsed kind (whole parsed) line) ≡ option_to_list (entry_at book parsed kind line)
kept-one book parsed kind line = go (last_below own (length parsed)) refl
  where
    own : ℕ → Bool
    own = uses (index_of kind) parsed line

    none : (opening : Bool) → count_below own (length parsed) ≡ 0 → filter is_used (cond opening (candidate book parsed kind (whole parsed) line ∷ []) []) ≡ []
    none true zeroed = ap (λ (sights : ℕ). cond (nat_lt 0 sights) (candidate book parsed kind (whole parsed) line ∷ []) []) zeroed
    none false zeroed = refl

    go : (found : Option ℕ) → last_below own (length parsed) ≡ found → filter is_used (candidate_at book parsed kind (whole parsed) line) ≡ option_to_list (option_map (entry_until book parsed kind line) found)
    go None is = none (opens parsed kind line) (count-none own (length parsed) is)
    go (Some last) is =
        let u : IsUsed (index_of kind) parsed line last = used (index_of kind) parsed line last (last-true own (length parsed) last is) in
        let station : known_name (station_at parsed (suc line)) ≡ known_name (station_at parsed last) = ap known_name (same-station (index_of kind) parsed line last u) in
        let ends : option_map_or (λ (last : ℕ). last + 1) (last_below own (length parsed)) 0 ≡ last + 1 = ap (λ found. option_map_or (λ (last : ℕ). last + 1) found 0) is in
        let same : candidate book parsed kind (whole parsed) line ≡ entry_until book parsed kind line last = cc in
        ap (λ opening. filter is_used (cond opening (candidate book parsed kind (whole parsed) line ∷ []) [])) (used-opens kind parsed line last u)
        ∙ cond-true (is_used (candidate book parsed kind (whole parsed) line)) (candidate book parsed kind (whole parsed) line ∷ []) [] (lt-ltb 0 (count_below own (length parsed)) (count-some own (length parsed) last is))
        ∙ ap (λ entry. entry ∷ []) same

-- and so of all lines
kept-below : (book : ℕ) (parsed : List ParsedLine) (n : ℕ) → filter is_used (all_below (both_at book parsed (whole parsed) (whole parsed)) n) ≡ all_below (entries_at book parsed) n
kept-below book parsed zero = refl
kept-below book parsed (suc n) =
    let many : Bounds = whole parsed in
    filter-append is_used (all_below (both_at book parsed many many) n) (both_at book parsed many many n)
    ∙ ap (λ own. own ++ filter is_used (both_at book parsed many many n)) (kept-below book parsed n)
    ∙ ap (λ own. all_below (entries_at book parsed) n ++ own)
    (filter-append is_used (candidate_at book parsed Reflector many n) (candidate_at book parsed Instrument many n)
    ∙ ap (λ own. own ++ filter is_used (candidate_at book parsed Instrument many n)) (kept-one book parsed Reflector n)
    ∙ ap (λ own. option_to_list (entry_at book parsed Reflector n) ++ own) (kept-one book parsed Instrument n))

pub kept : (book : ℕ) (parsed : List ParsedLine) → filter is_used (all_below (both_at book parsed (whole parsed) (whole parsed)) (length parsed)) ≡ entries_of book parsed
kept book parsed = kept-below book parsed (length parsed)
