-- The entries after one more line, and the latest of them, are those at its place.
use Rattle.std.proofs.Common.{◌≡◌, ℕ, ℤ, suc, ◌+◌, ◌<◌, Bool, true, false, not, cond, ◌&&◌, List, [], ◌∷◌, ◌++◌, Option, Some, None, length, refl, sym, ap, ◌∙◌, subst, arith, append_assoc}
use Rattle.std.specs.Prelude.{is_some, nat_le, option_and_then, option_map, option_to_list}
use Rattle.std.specs.Option.{option_map_or}
use Rattle.std.specs.Ordering.{int_eq}
use Rattle.std.proofs.lemmas.Bool.{and_left, and_right, cond-false, cond-true, false_from_ne_true, false≢true, le-leb, lt-leb, true≢false}
use Rattle.std.proofs.lemmas.List.{append-nil}
use Rattle.gsi_word.specs.Indexes.{reflector_height, instrument_height}
use Rattle.th_book.specs.Lines.{ParsedLine, holds, is_setup, is_sight, length_in, point_name}
use Rattle.th_book.specs.Places.{holds_from, last_below, setup_of, station_at, words_at}
use Rattle.th_book.specs.Books.{known, known_name}
use Rattle.th_book.specs.Entered.{IsWhole, entered_by}
use Rattle.th_book.specs.Setups.{IsHeight, IsRunning}
use Rattle.th_book.specs.declared.setups.Setup.{Setup}
use Rattle.th_entries.specs.Below.{all_below, count_below}
use Rattle.th_entries.specs.Entries.{begins, begins_from, continues, index_of, last_before, length_at, repeated_below, unit_in, uses, writes}
use Rattle.th_entries.specs.Inside.Running.{Entering, begun_by, entering_after, entry_in, height_of, is_repeated, is_same, place_of, served, setup_on, sighted, with_heights, with_words, written}
use Rattle.th_entries.specs.Inside.Tallies.{Bounds, IsEntering, both_at, candidate, candidate_at, open_at, opens, place_in, upto}
use Rattle.th_entries.specs.declared.entries.Entry.{Entry}
use Rattle.th_entries.specs.declared.entries.HeightKind.{HeightKind}
use Rattle.th_entries.specs.declared.entries.HeightKind.TheVariants.{Reflector, Instrument}
use Rattle.th_entries.specs.declared.running.Latest.{Latest}
use Rattle.th_entries.proofs.BelowLemmas.{all-same, count-none, last-lt, last-none}
use Rattle.th_entries.proofs.Candidates.{place-instrument, place-reflector, unused-at, unwritten, unwritten-before, writes-none}
use Rattle.th_entries.proofs.Served.{serve-instrument, serve-reflector, write-instrument, write-reflector}
use Rattle.th_entries.proofs.Uses.{no-setup, used, used-le}

-- the last entry that begins before a line, in the setup that runs behind it
abbrev open_before : ℕ → List ParsedLine → ℕ → Option ℕ
open_before index parsed n = option_and_then (λ from. last_below (begins_from parsed index from) n) (setup_of parsed (suc n))

-- a new setup has no entry and no height
no_entry : (index : ℕ) (parsed : List ParsedLine) (n : ℕ) → last_below (begins_from parsed index n) n ≡ None
no_entry index parsed n = last-none (begins_from parsed index n) n (λ k below. and_left (nat_le n k) (begins index parsed k) (lt-leb n k below))

no_height : (index : ℕ) (parsed : List ParsedLine) (n : ℕ) → last_below (holds_from parsed index n) n ≡ None
no_height index parsed n = last-none (holds_from parsed index n) n (λ k below. and_left (nat_le n k) (holds index (words_at parsed k)) (lt-leb n k below))

-- what a setup has before a line: the name of the point at its own line, and the last heights from there on
record Has (parsed : List ParsedLine) (from n : ℕ) (setup : Setup) : Type 0 where
  pub name : point_name (words_at parsed from) ≡ Some setup.station
  pub instrument : IsHeight instrument_height parsed from n setup.instrument
  pub reflector : IsHeight reflector_height parsed from n setup.reflector

height : (kind : HeightKind) (parsed : List ParsedLine) (from n : ℕ) (setup : Setup) → Has parsed from n setup → IsHeight (index_of kind) parsed from n (height_of kind setup)
height Reflector parsed from n setup has = has.reflector
height Instrument parsed from n setup has = has.instrument

abbrev IsOn : List ParsedLine → ℕ → Option ℕ → Option Setup → Type 0
IsOn parsed n None None = Unit {0}
IsOn parsed n None (Some setup) = ⊥
IsOn parsed n (Some from) None = ⊥
IsOn parsed n (Some from) (Some setup) = Has parsed from n setup

-- the setup of a line, before its heights, is the one that runs behind it
on_line : (parsed : List ParsedLine) (n : ℕ) (running : Option Setup) → IsWhole (words_at parsed n) (entered_by (words_at parsed n)) → IsRunning parsed n (setup_of parsed n) running → IsOn parsed n (setup_of parsed (suc n)) (setup_on running (entered_by (words_at parsed n)).station)
on_line parsed n running whole runs = go (is_setup (words_at parsed n)) (point_name (words_at parsed n)) refl whole.station
  where
    new : (index : ℕ) → IsHeight index parsed n n None
    new index = record {
      length = ap (option_and_then (λ k. length_in index (words_at parsed k))) (sym (no_height index parsed n));
      there = ap is_some (sym (no_height index parsed n));
    }

    kept : (found : Option ℕ) (held : Option Setup) → IsRunning parsed n found held → IsOn parsed n found held
    kept None None r = tt
    kept None (Some own) r = r
    kept (Some from) None r = r
    kept (Some from) (Some own) r = record { name = r.name; instrument = r.instrument; reflector = r.reflector }

    go : (begins : Bool) (name : Option (List ℕ)) → point_name (words_at parsed n) ≡ name → is_some (cond begins name None) ≡ begins → IsOn parsed n (cond begins (Some n) (setup_of parsed n)) (setup_on running (cond begins name None))
    go true None is e = absurd (false≢true e)
    go true (Some name) is e = record { name = is; instrument = new instrument_height; reflector = new reflector_height }
    go false name is e = kept (setup_of parsed n) running runs

-- the setup of a line has begun, and none of its heights is entered
record Begun (number : ℕ) (parsed : List ParsedLine) (n : ℕ) (state : Entering) : Type 0 where
  pub reflector : state.latest.reflector ≡ option_map (place_in parsed Reflector) (open_before reflector_height parsed n)
  pub instrument : state.latest.instrument ≡ option_map (place_in parsed Instrument) (open_before instrument_height parsed n)
  pub entries : state.entries ≡ all_below (both_at number parsed (upto n n) (upto n n)) n

begun-more : (number : ℕ) (parsed : List ParsedLine) (n : ℕ) (state : Entering) → IsWhole (words_at parsed n) (entered_by (words_at parsed n)) → IsEntering number parsed n state → Begun number parsed n (record state { latest = begun_by (entered_by (words_at parsed n)) state.latest })
begun-more number parsed n state whole was = go (is_setup (words_at parsed n)) refl
  where
    go : (begins : Bool) → is_setup (words_at parsed n) ≡ begins → Begun number parsed n (record state { latest = begun_by (entered_by (words_at parsed n)) state.latest })
    go true is =
        let entered = entered_by (words_at parsed n) in
        let runs : begun_by entered state.latest ≡ record { reflector = None; instrument = None } = cond-true (is_some entered.station) _ _ (whole.station ∙ is) in
        let setup : setup_of parsed (suc n) ≡ Some n = cond-true (is_setup (words_at parsed n)) _ _ is in
        record {
          reflector = ap (λ (latest : Latest). latest.reflector) runs ∙ sym (ap (option_map (place_in parsed Reflector)) (ap (option_and_then (λ from. last_below (begins_from parsed reflector_height from) n)) setup ∙ no_entry reflector_height parsed n));
          instrument = ap (λ (latest : Latest). latest.instrument) runs ∙ sym (ap (option_map (place_in parsed Instrument)) (ap (option_and_then (λ from. last_below (begins_from parsed instrument_height from) n)) setup ∙ no_entry instrument_height parsed n));
          entries = was.entries;
        }
    go false is =
        let entered = entered_by (words_at parsed n) in
        let runs : begun_by entered state.latest ≡ state.latest = cond-false (is_some entered.station) _ _ (whole.station ∙ is) in
        let setup : setup_of parsed (suc n) ≡ setup_of parsed n = cond-false (is_setup (words_at parsed n)) _ _ is in
        record {
          reflector = ap (λ (latest : Latest). latest.reflector) runs ∙ was.reflector ∙ sym (ap (option_map (place_in parsed Reflector)) (ap (option_and_then (λ from. last_below (begins_from parsed reflector_height from) n)) setup));
          instrument = ap (λ (latest : Latest). latest.instrument) runs ∙ was.instrument ∙ sym (ap (option_map (place_in parsed Instrument)) (ap (option_and_then (λ from. last_below (begins_from parsed instrument_height from) n)) setup));
          entries = was.entries;
        }

-- no sight before a line uses it
not_before : (index : ℕ) (parsed : List ParsedLine) (n k : ℕ) → k < n → uses index parsed n k ≡ false
not_before index parsed n k before =
    false_from_ne_true (uses index parsed n k) (λ is. omega (arith, before, used-le index parsed n k (used index parsed n k is)))

-- a length repeats the last height exactly where its line continues an entry
continued : (parsed : List ParsedLine) (kind : HeightKind) (n from : ℕ) (setup : Setup) → setup_of parsed (suc n) ≡ Some from → Has parsed from n setup → is_repeated kind (length_at (index_of kind) parsed n) setup ≡ continues (index_of kind) parsed n
continued parsed kind n from setup is has =
    go (last_below (holds_from parsed (index_of kind) from) n) (height_of kind setup) (height kind parsed from n setup has).length (height kind parsed from n setup has).there
    ∙ ap (λ found. option_map_or (λ before. int_eq (length_at (index_of kind) parsed before) (length_at (index_of kind) parsed n)) found false) (sym before_is)
  where
    before_is : last_before (index_of kind) parsed n ≡ last_below (holds_from parsed (index_of kind) from) n
    before_is = ap (option_and_then (λ own. last_below (holds_from parsed (index_of kind) own) n)) is

    go : (found : Option ℕ) (last : Option ℤ) → last ≡ option_and_then (λ k. length_in (index_of kind) (words_at parsed k)) found → is_some last ≡ is_some found → is_same last (length_at (index_of kind) parsed n) ≡ option_map_or (λ before. int_eq (length_at (index_of kind) parsed before) (length_at (index_of kind) parsed n)) found false
    go None None e there = refl
    go None (Some own) e there = absurd (true≢false there)
    go (Some k) None e there = absurd (false≢true there)
    go (Some k) (Some own) e there = ap (λ length. int_eq length (length_at (index_of kind) parsed n)) (ap known e)

and_true : (b : Bool) → (b && true) ≡ b
and_true true = refl
and_true false = refl

-- the entry that a line begins, which no sight uses yet
added : (number : ℕ) (parsed : List ParsedLine) (kind : HeightKind) (n : ℕ) (setup : Option Setup) → IsOn parsed n (setup_of parsed (suc n)) setup → is_some (length_in (index_of kind) (words_at parsed n)) ≡ holds (index_of kind) (words_at parsed n) → entry_in setup number (n + 1) kind (unit_in (index_of kind) (words_at parsed n)) (length_in (index_of kind) (words_at parsed n)) ≡ cond (opens parsed kind n) (Some (candidate number parsed kind (upto n n) n)) None
added number parsed kind n setup on read = go (setup_of parsed (suc n)) setup (length_in (index_of kind) (words_at parsed n)) refl on refl
  where
    opened_as : (found : Option ℕ) (length : Option ℤ) → setup_of parsed (suc n) ≡ found → length_in (index_of kind) (words_at parsed n) ≡ length → opens parsed kind n ≡ ((is_some length && not (continues (index_of kind) parsed n)) && is_some found)
    opened_as found length is has =
        ap (λ held. (held && not (continues (index_of kind) parsed n)) && is_some (setup_of parsed (suc n))) (sym read ∙ ap is_some has)
        ∙ ap (λ there. (is_some length && not (continues (index_of kind) parsed n)) && there) (ap is_some is)

    none_last : last_below (uses (index_of kind) parsed n) n ≡ None
    none_last = last-none (uses (index_of kind) parsed n) n (λ k before. not_before (index_of kind) parsed n k before)

    none_written : last_below (writes (index_of kind) parsed n) n ≡ None
    none_written = last-none (writes (index_of kind) parsed n) n (λ k before. unwritten-before (index_of kind) parsed n k before)

    turned : (repeated : Bool) (entry : Entry) → cond repeated None (Some entry) ≡ cond (not repeated) (Some entry) None
    turned true entry = refl
    turned false entry = refl

    go : (found : Option ℕ) (own : Option Setup) (length : Option ℤ) → setup_of parsed (suc n) ≡ found → IsOn parsed n found own → length_in (index_of kind) (words_at parsed n) ≡ length → entry_in own number (n + 1) kind (unit_in (index_of kind) (words_at parsed n)) length ≡ cond (opens parsed kind n) (Some (candidate number parsed kind (upto n n) n)) None
    go None None length is on has =
        let no : opens parsed kind n ≡ false = opened_as None length is has ∙ and_right (is_some length && not (continues (index_of kind) parsed n)) false refl in
        sym (ap (λ own. cond own (Some (candidate number parsed kind (upto n n) n)) None) no)
    go None (Some own) length is on has = absurd on
    go (Some from) None length is on has = absurd on
    go (Some from) (Some own) None is on has =
        let no : opens parsed kind n ≡ false = opened_as (Some from) None is has in
        sym (ap (λ own. cond own (Some (candidate number parsed kind (upto n n) n)) None) no)
    go (Some from) (Some own) (Some length) is on has =
        let read : length ≡ length_at (index_of kind) parsed n = ap known (sym has) in
        let repeats : is_repeated kind length own ≡ continues (index_of kind) parsed n =
        ap (λ length. is_repeated kind length own) read ∙ continued parsed kind n from own is on
        in
        let opened : opens parsed kind n ≡ not (continues (index_of kind) parsed n) = opened_as (Some from) (Some length) is has ∙ and_true (not (continues (index_of kind) parsed n)) in
        let station : own.station ≡ known_name (station_at parsed (suc n)) = ap known_name (sym (ap (option_and_then (λ (setup : ℕ). point_name (words_at parsed setup))) is ∙ on.name)) in
        let sights : 0 ≡ count_below (uses (index_of kind) parsed n) n = sym (count-none (uses (index_of kind) parsed n) n none_last) in
        let last : 0 ≡ option_map_or (λ (last : ℕ). last + 1) (last_below (uses (index_of kind) parsed n) n) 0 = ap (λ found. option_map_or (λ (last : ℕ). last + 1) found 0) (sym none_last) in
        let repeated : n + 1 ≡ repeated_below (index_of kind) parsed n n = ap (λ found. option_map_or (λ (last : ℕ). last + 1) found (n + 1)) (sym none_written) in
        let unit = unit_in (index_of kind) (words_at parsed n) in
        let same : record { book = number; line = n + 1; kind = kind; station = own.station; length = length; unit = unit; repeated = n + 1; sights = 0; last = 0 } ≡ candidate number parsed kind (upto n n) n = cc in
        ap (λ repeated. cond repeated None (Some (record { book = number; line = n + 1; kind = kind; station = own.station; length = length; unit = unit; repeated = n + 1; sights = 0; last = 0 }))) repeats
        ∙ turned (continues (index_of kind) parsed n) _
        ∙ ap (λ entry. cond (not (continues (index_of kind) parsed n)) (Some entry) None) same
        ∙ ap (λ own. cond own (Some (candidate number parsed kind (upto n n) n)) None) (sym opened)

-- what it adds to the entries
added-list : (number : ℕ) (parsed : List ParsedLine) (kind : HeightKind) (n : ℕ) (entry : Option Entry) → entry ≡ cond (opens parsed kind n) (Some (candidate number parsed kind (upto n n) n)) None → option_to_list entry ≡ candidate_at number parsed kind (upto n n) n
added-list number parsed kind n entry is = ap option_to_list is ∙ go (opens parsed kind n)
  where
    go : (there : Bool) → option_to_list (cond there (Some (candidate number parsed kind (upto n n) n)) None) ≡ cond there (candidate number parsed kind (upto n n) n ∷ []) []
    go true = refl
    go false = refl

-- the place of the last entry after a line
place-more : (number : ℕ) (parsed : List ParsedLine) (kind : HeightKind) (n : ℕ) (entries : List Entry) (entry : Option Entry) (before : Option ℕ) → entry ≡ cond (opens parsed kind n) (Some (candidate number parsed kind (upto n n) n)) None → length entries ≡ place_in parsed kind n → before ≡ option_map (place_in parsed kind) (open_before (index_of kind) parsed n) → place_of entry entries before ≡ option_map (place_in parsed kind) (open_at (index_of kind) parsed (suc n))
place-more number parsed kind n entries entry before is many was =
    ap (λ own. place_of own entries before) is
    ∙ after (opens parsed kind n)
    ∙ ap (λ own. cond (opens parsed kind n) (Some own) before) many
    ∙ ap (λ own. cond (opens parsed kind n) (Some (place_in parsed kind n)) own) was
    ∙ go (setup_of parsed (suc n)) refl
  where
    after : (there : Bool) → place_of (cond there (Some (candidate number parsed kind (upto n n) n)) None) entries before ≡ cond there (Some (length entries)) before
    after true = refl
    after false = refl

    begun : (beginning : Bool) (found : Option ℕ) → cond beginning (Some (place_in parsed kind n)) (option_map (place_in parsed kind) found) ≡ option_map (place_in parsed kind) (cond beginning (Some n) found)
    begun true found = refl
    begun false found = refl

    go : (setup : Option ℕ) → setup_of parsed (suc n) ≡ setup → cond (begins (index_of kind) parsed n && is_some setup) (Some (place_in parsed kind n)) (option_map (place_in parsed kind) (option_and_then (λ from. last_below (begins_from parsed (index_of kind) from) n) setup)) ≡ option_map (place_in parsed kind) (option_and_then (λ from. last_below (begins_from parsed (index_of kind) from) (suc n)) setup)
    go None e = cond-false (begins (index_of kind) parsed n && false) _ _ (and_right (begins (index_of kind) parsed n) false refl)
    go (Some from) e =
        let late : nat_le from n ≡ true = le-leb from n (omega (arith, last-lt (λ own. is_setup (words_at parsed own)) (suc n) from e)) in
        ap (λ own. cond own (Some (place_in parsed kind n)) (option_map (place_in parsed kind) (last_below (begins_from parsed (index_of kind) from) n))) (and_true (begins (index_of kind) parsed n))
        ∙ begun (begins (index_of kind) parsed n) (last_below (begins_from parsed (index_of kind) from) n)
        ∙ ap (λ own. option_map (place_in parsed kind) (cond (own && begins (index_of kind) parsed n) (Some n) (last_below (begins_from parsed (index_of kind) from) n))) (sym late)

-- the heights of a line are entered
record Entered (number : ℕ) (parsed : List ParsedLine) (n : ℕ) (state : Entering) : Type 0 where
  pub reflector : state.latest.reflector ≡ option_map (place_in parsed Reflector) (open_at reflector_height parsed (suc n))
  pub instrument : state.latest.instrument ≡ option_map (place_in parsed Instrument) (open_at instrument_height parsed (suc n))
  pub entries : state.entries ≡ all_below (both_at number parsed (upto n n) (upto n n)) (suc n)

-- and so are its words
record HasWords (number : ℕ) (parsed : List ParsedLine) (n : ℕ) (state : Entering) : Type 0 where
  pub reflector : state.latest.reflector ≡ option_map (place_in parsed Reflector) (open_at reflector_height parsed (suc n))
  pub instrument : state.latest.instrument ≡ option_map (place_in parsed Instrument) (open_at instrument_height parsed (suc n))
  pub entries : state.entries ≡ all_below (both_at number parsed (upto n (suc n)) (upto n (suc n))) (suc n)

heights-more : (number : ℕ) (parsed : List ParsedLine) (n : ℕ) (running : Option Setup) (state : Entering) → IsWhole (words_at parsed n) (entered_by (words_at parsed n)) → IsRunning parsed n (setup_of parsed n) running → IsEntering number parsed n state → Entered number parsed n (with_heights number (n + 1) running (words_at parsed n) (entered_by (words_at parsed n)) state)
heights-more number parsed n running state whole runs was =
    let entered = entered_by (words_at parsed n) in
    let start : Entering = record state { latest = begun_by entered state.latest } in
    let begun = begun-more number parsed n state whole was in
    let setup = setup_on running entered.station in
    let on = on_line parsed n running whole runs in
    let reflector = added number parsed Reflector n setup on whole.reflector in
    let instrument = added number parsed Instrument n setup on whole.instrument in
    let one = entry_in setup number (n + 1) Reflector (unit_in reflector_height (words_at parsed n)) entered.reflector in
    let other = entry_in setup number (n + 1) Instrument (unit_in instrument_height (words_at parsed n)) entered.instrument in
    let first : start.entries ++ option_to_list one ≡ all_below (both_at number parsed (upto n n) (upto n n)) n ++ candidate_at number parsed Reflector (upto n n) n = ap (λ own. own ++ option_to_list one) begun.entries ∙ ap (λ own. all_below (both_at number parsed (upto n n) (upto n n)) n ++ own) (added-list number parsed Reflector n one reflector) in
    record {
      reflector = place-more number parsed Reflector n start.entries one start.latest.reflector reflector (ap length begun.entries ∙ place-reflector number parsed (upto n n) (upto n n) n) begun.reflector;
      instrument = place-more number parsed Instrument n (start.entries ++ option_to_list one) other start.latest.instrument instrument (ap length first ∙ place-instrument number parsed (upto n n) (upto n n) (upto n n) n) begun.instrument;
      entries = ap (λ own. own ++ option_to_list other) first
          ∙ ap (λ own. (all_below (both_at number parsed (upto n n) (upto n n)) n ++ candidate_at number parsed Reflector (upto n n) n) ++ own) (added-list number parsed Instrument n other instrument)
          ∙ append_assoc (all_below (both_at number parsed (upto n n) (upto n n)) n) (candidate_at number parsed Reflector (upto n n) n) (candidate_at number parsed Instrument (upto n n) n);
    }

-- where the line is no sight, it uses nothing
no-sight : (number : ℕ) (parsed : List ParsedLine) (n words : ℕ) → is_sight (words_at parsed n) ≡ false → all_below (both_at number parsed (upto n words) (upto n words)) (suc n) ≡ all_below (both_at number parsed (upto (suc n) words) (upto (suc n) words)) (suc n)
no-sight number parsed n words none =
    all-same (both_at number parsed (upto n words) (upto n words)) (both_at number parsed (upto (suc n) words) (upto (suc n) words)) (suc n) (λ line below. ap (λ own. own ++ candidate_at number parsed Instrument (upto n words) line) (unused-at number parsed Reflector n words line (and_left _ _ none)) ∙ ap (λ own. candidate_at number parsed Reflector (upto (suc n) words) line ++ own) (unused-at number parsed Instrument n words line (and_left _ _ none)))

-- the words of a line are entered
words-more : (number : ℕ) (parsed : List ParsedLine) (n : ℕ) (state : Entering) → IsWhole (words_at parsed n) (entered_by (words_at parsed n)) → Entered number parsed n state → HasWords number parsed n (with_words (n + 1) (entered_by (words_at parsed n)) state)
words-more number parsed n state whole own =
    let entered = entered_by (words_at parsed n) in
    let line = n + 1 in
    record {
      reflector = own.reflector;
      instrument = own.instrument;
      entries = ap (λ place. written entered.instrument state.latest.instrument line (written entered.reflector place line state.entries)) own.reflector
          ∙ ap (λ entries. written entered.instrument state.latest.instrument line (written entered.reflector (option_map (place_in parsed Reflector) (open_at reflector_height parsed (suc n))) line entries)) own.entries
          ∙ ap (written entered.instrument state.latest.instrument line) (write-reflector number parsed n n (upto n n) entered.reflector whole.reflector)
          ∙ ap (λ place. written entered.instrument place line (all_below (both_at number parsed (upto n (suc n)) (upto n n)) (suc n))) own.instrument
          ∙ write-instrument number parsed n n (upto n (suc n)) entered.instrument whole.instrument;
    }

-- all of a line is entered
pub entering-more : (number : ℕ) (parsed : List ParsedLine) (n : ℕ) (running : Option Setup) (state : Entering) → n < 4294967295 → IsWhole (words_at parsed n) (entered_by (words_at parsed n)) → IsRunning parsed n (setup_of parsed n) running → IsEntering number parsed n state → IsEntering number parsed (suc n) (entering_after number (n + 1) running (words_at parsed n) (entered_by (words_at parsed n)) state)
entering-more number parsed n running state small whole runs was = go (is_sight (words_at parsed n)) refl
  where
    after : Entering
    after = with_words (n + 1) (entered_by (words_at parsed n)) (with_heights number (n + 1) running (words_at parsed n) (entered_by (words_at parsed n)) state)

    own : HasWords number parsed n after
    own = words-more number parsed n (with_heights number (n + 1) running (words_at parsed n) (entered_by (words_at parsed n)) state) whole (heights-more number parsed n running state whole runs was)

    go : (sight : Bool) → is_sight (words_at parsed n) ≡ sight → IsEntering number parsed (suc n) (entering_after number (n + 1) running (words_at parsed n) (entered_by (words_at parsed n)) state)
    go false none =
        subst (λ (state : Entering). IsEntering number parsed (suc n) state) (sym (cond-false (is_some (entered_by (words_at parsed n)).target) (sighted (n + 1) after) after (whole.target ∙ none)))
        (record { reflector = own.reflector; instrument = own.instrument; entries = own.entries ∙ no-sight number parsed n (suc n) none })
    go true sight =
        let line = n + 1 in
        let none = no-setup parsed n sight in
        subst (λ (state : Entering). IsEntering number parsed (suc n) state) (sym (cond-true (is_some (entered_by (words_at parsed n)).target) (sighted (n + 1) after) after (whole.target ∙ sight)))
        (record {
          reflector = own.reflector;
          instrument = own.instrument;
          entries = ap (λ place. served after.latest.instrument line (served place line after.entries)) own.reflector
              ∙ ap (λ entries. served after.latest.instrument line (served (option_map (place_in parsed Reflector) (open_at reflector_height parsed (suc n))) line entries)) own.entries
              ∙ ap (served after.latest.instrument line) (serve-reflector number parsed n (suc n) (upto n (suc n)) small sight none)
              ∙ ap (λ place. served place line (all_below (both_at number parsed (upto (suc n) (suc n)) (upto n (suc n))) (suc n))) own.instrument
              ∙ serve-instrument number parsed n (suc n) (upto (suc n) (suc n)) small sight none;
        })

-- a blank line has no words
no-words : (number : ℕ) (parsed : List ParsedLine) (n sights : ℕ) → words_at parsed n ≡ [] → all_below (both_at number parsed (upto sights n) (upto sights n)) (suc n) ≡ all_below (both_at number parsed (upto sights (suc n)) (upto sights (suc n))) (suc n)
no-words number parsed n sights blank =
    all-same (both_at number parsed (upto sights n) (upto sights n)) (both_at number parsed (upto sights (suc n)) (upto sights (suc n))) (suc n)
    (λ line below. ap (λ own. cond (opens parsed Reflector line) (own ∷ []) [] ++ candidate_at number parsed Instrument (upto sights n) line) (unwritten number parsed Reflector sights n line (none Reflector line))
    ∙ ap (λ own. candidate_at number parsed Reflector (upto sights (suc n)) line ++ cond (opens parsed Instrument line) (own ∷ []) []) (unwritten number parsed Instrument sights n line (none Instrument line)))
  where
    none : (kind : HeightKind) (line : ℕ) → writes (index_of kind) parsed line n ≡ false
    none kind line = writes-none (index_of kind) parsed n line (ap (holds (index_of kind)) blank)

-- a blank line begins no entry
blank-begins : (index : ℕ) (parsed : List ParsedLine) (n : ℕ) → words_at parsed n ≡ [] → begins index parsed n ≡ false
blank-begins index parsed n blank = ap (λ own. holds index own && not (continues index parsed n)) blank

blank-open : (index : ℕ) (parsed : List ParsedLine) (n : ℕ) → words_at parsed n ≡ [] → open_at index parsed n ≡ open_at index parsed (suc n)
blank-open index parsed n blank =
    go (setup_of parsed n)
    ∙ ap (option_and_then (λ from. last_below (begins_from parsed index from) (suc n))) (sym (cond-false (is_setup (words_at parsed n)) (Some n) (setup_of parsed n) (ap is_setup blank)))
  where
    go : (setup : Option ℕ) → option_and_then (λ from. last_below (begins_from parsed index from) n) setup ≡ option_and_then (λ from. last_below (begins_from parsed index from) (suc n)) setup
    go None = refl
    go (Some from) = sym (cond-false (begins_from parsed index from n) (Some n) (last_below (begins_from parsed index from) n) (and_right (nat_le from n) (begins index parsed n) (blank-begins index parsed n blank)))

blank-none : (number : ℕ) (parsed : List ParsedLine) (kind : HeightKind) (bound : Bounds) (n : ℕ) → words_at parsed n ≡ [] → candidate_at number parsed kind bound n ≡ []
blank-none number parsed kind bound n blank =
    cond-false (opens parsed kind n) (candidate number parsed kind bound n ∷ []) [] (ap (λ own. own && is_some (setup_of parsed (suc n))) (blank-begins (index_of kind) parsed n blank))

pub entering-blank : (number : ℕ) (parsed : List ParsedLine) (n : ℕ) (state : Entering) → words_at parsed n ≡ [] → IsEntering number parsed n state → IsEntering number parsed (suc n) state
entering-blank number parsed n state blank was = record {
  reflector = was.reflector ∙ ap (option_map (place_in parsed Reflector)) (blank-open reflector_height parsed n blank);
  instrument = was.instrument ∙ ap (option_map (place_in parsed Instrument)) (blank-open instrument_height parsed n blank);
  entries = was.entries
      ∙ sym (append-nil (all_below (both_at number parsed (upto n n) (upto n n)) n))
      ∙ ap (λ own. all_below (both_at number parsed (upto n n) (upto n n)) n ++ (own ++ [])) (sym (blank-none number parsed Reflector (upto n n) n blank))
      ∙ ap (λ own. all_below (both_at number parsed (upto n n) (upto n n)) n ++ (candidate_at number parsed Reflector (upto n n) n ++ own)) (sym (blank-none number parsed Instrument (upto n n) n blank))
      ∙ no-sight number parsed n n (ap is_sight blank)
      ∙ no-words number parsed n (suc n) blank;
}
