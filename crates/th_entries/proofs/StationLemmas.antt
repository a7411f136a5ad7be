-- The observations of an entry's sights are from its station.
use Rattle.std.proofs.Common.{◌≡◌, ◌≢◌, ℕ, zero, suc, ◌+◌, ◌≤◌, ◌⊎◌, inl, inr, true, List, [], ◌++◌, Option, Some, None, length, refl, sym, ap, ◌∙◌, arith}
use Rattle.std.specs.Prelude.{All, Contains, option_map, option_to_list}
use Rattle.std.proofs.lemmas.List.Elements.{All-append, All-contains, All-cons, All-nil, Contains-append_cases}
use Rattle.th_observations.specs.Observed.{Observed}
use Rattle.th_book.specs.Lines.{ParsedLine, is_sight}
use Rattle.th_book.specs.Places.{last_below, words_at}
use Rattle.th_book.specs.Books.{known_name, observed_at}
use Rattle.th_entries.specs.Below.{all_below}
use Rattle.th_entries.specs.Entries.{entries_at, entries_of, entry_at, entry_until, index_of, uses}
use Rattle.th_entries.specs.Stations.{HasOneStation}
use Rattle.th_entries.specs.declared.entries.Entry.{Entry}
use Rattle.th_entries.specs.declared.entries.HeightKind.{HeightKind}
use Rattle.th_entries.specs.declared.entries.HeightKind.TheVariants.{Reflector, Instrument}
use Rattle.th_entries.proofs.BelowLemmas.{last-true}
use Rattle.th_entries.proofs.Uses.{IsUsed, between, same-station, used}

-- what holds of all that each place gives
All-below : {X : Type 0} → (P : X → Type 0) (gives : ℕ → List X) (bound : ℕ) → ((k : ℕ) → All P (gives k)) → All P (all_below gives bound)
All-below P gives zero each = All-nil P
All-below P gives (suc bound) each = All-append P (all_below gives bound) (gives bound) (All-below P gives bound each) (each bound)

-- where an entry comes from
pub record IsEntry (number : ℕ) (parsed : List ParsedLine) (entry : Entry) : Type 0 where
  pub kind : HeightKind
  pub line : ℕ
  pub last : ℕ
  pub found : last_below (uses (index_of kind) parsed line) (length parsed) ≡ Some last
  pub is : entry ≡ entry_until number parsed kind line last

one-entry : (number : ℕ) (parsed : List ParsedLine) (kind : HeightKind) (line : ℕ) → All (IsEntry number parsed) (option_to_list (entry_at number parsed kind line))
one-entry number parsed kind line = go (last_below (uses (index_of kind) parsed line) (length parsed)) refl
  where
    go : (found : Option ℕ) → last_below (uses (index_of kind) parsed line) (length parsed) ≡ found → All (IsEntry number parsed) (option_to_list (option_map (entry_until number parsed kind line) found))
    go None is = All-nil (IsEntry number parsed)
    go (Some last) is = All-cons (IsEntry number parsed) (entry_until number parsed kind line last) [] (record { kind = kind; line = line; last = last; found = is; is = refl }) (All-nil (IsEntry number parsed))

pub IsEntry-entries_of : (number : ℕ) (parsed : List ParsedLine) (entry : Entry) → Contains (entries_of number parsed) entry → IsEntry number parsed entry
IsEntry-entries_of number parsed entry among =
    All-contains (IsEntry number parsed) (entries_of number parsed) entry
    (All-below (IsEntry number parsed) (entries_at number parsed) (length parsed)
    (λ line. All-append (IsEntry number parsed) (option_to_list (entry_at number parsed Reflector line)) (option_to_list (entry_at number parsed Instrument line)) (one-entry number parsed Reflector line) (one-entry number parsed Instrument line)))
    among

-- it is the observation of a sight
abbrev pub IsOfSight : ℕ → List ParsedLine → Observed → Type 0
IsOfSight number parsed o = (place : ℕ) × (is_sight (words_at parsed place) ≡ true) × (o ≡ observed_at number parsed place)

-- an observation between an entry and its last sight is from the station
pub one-station : (number : ℕ) (parsed : List ParsedLine) (entry : Entry) (o : Observed) → IsEntry number parsed entry → IsOfSight number parsed o → entry.line ≤ o.line → o.line ≤ entry.last → o.station ≡ entry.station
one-station number parsed entry o e sight from to =
    ap (λ (own : Observed). own.station) sight.2
    ∙ ap known_name (sym (same-station index parsed e.line sight.0 here) ∙ same-station index parsed e.line e.last there)
    ∙ ap (λ (own : Entry). own.station) (sym e.is)
  where
    index : ℕ
    index = index_of e.kind

    there : IsUsed index parsed e.line e.last
    there = used index parsed e.line e.last (last-true (uses index parsed e.line) (length parsed) e.last e.found)

    line : o.line ≡ sight.0 + 1
    line = ap (λ (own : Observed). own.line) sight.2

    first : entry.line ≡ e.line + 1
    first = ap (λ (own : Entry). own.line) e.is

    end : entry.last ≡ e.last + 1
    end = ap (λ (own : Entry). own.last) e.is

    here : IsUsed index parsed e.line sight.0
    here = between index parsed e.line e.last sight.0 there sight.1 (omega (arith, line, first, from)) (omega (arith, line, end, to))

-- observations of other books before them or behind them
pub station-before : (others observations : List Observed) (entry : Entry) → All (λ o. o.book ≢ entry.book) others → HasOneStation observations entry → HasOneStation (others ++ observations) entry
station-before others observations entry apart own = λ o among same from to. go o same from to (Contains-append_cases others observations o among)
  where
    go : (o : Observed) → o.book ≡ entry.book → entry.line ≤ o.line → o.line ≤ entry.last → Contains others o ⊎ Contains observations o → o.station ≡ entry.station
    go o same from to (inl other) = absurd (All-contains (λ (o : Observed). o.book ≢ entry.book) others o apart other same)
    go o same from to (inr among) = own o among same from to

pub station-behind : (observations others : List Observed) (entry : Entry) → HasOneStation observations entry → All (λ o. o.book ≢ entry.book) others → HasOneStation (observations ++ others) entry
station-behind observations others entry own apart = λ o among same from to. go o same from to (Contains-append_cases observations others o among)
  where
    go : (o : Observed) → o.book ≡ entry.book → entry.line ≤ o.line → o.line ≤ entry.last → Contains observations o ⊎ Contains others o → o.station ≡ entry.station
    go o same from to (inl among) = own o among same from to
    go o same from to (inr other) = absurd (All-contains (λ (o : Observed). o.book ≢ entry.book) others o apart other same)
