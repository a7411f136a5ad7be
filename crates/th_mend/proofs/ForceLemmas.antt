-- The entries in force behind one more line are those at its place.
use Rattle.std.proofs.Common.{◌≡◌, ℕ, ℤ, suc, ◌<◌, Bool, true, false, not, cond, ◌&&◌, List, [], Option, Some, None, length, refl, sym, ap, ◌∙◌, subst, arith}
use Rattle.std.specs.Prelude.{is_some, nat_le, option_and_then}
use Rattle.std.specs.Option.{option_map_or}
use Rattle.std.specs.Ordering.{int_eq}
use Rattle.std.proofs.lemmas.Bool.{and_left, and_right, cond-false, cond-true, false≢true, le-leb, lt-leb, true≢false}
use Rattle.gsi_word.specs.Indexes.{reflector_height, instrument_height}
use Rattle.th_book.specs.Lines.{ParsedLine, holds, is_setup, is_sight, length_in, point_name, words_in}
use Rattle.th_book.specs.Places.{holds_from, last_below, line_at, setup_of, words_at}
use Rattle.th_book.specs.Books.{known}
use Rattle.th_book.specs.Entered.{AreSound, IsSound, IsWhole, entered_by}
use Rattle.th_book.specs.Faults.{first_fault}
use Rattle.th_book.specs.Witnesses.{IsBlockAt}
use Rattle.th_book.specs.declared.entries.Entered.{Entered}
use Rattle.gsi_word.specs.Words.{Parts}
use Rattle.th_book.specs.Setups.{IsHeight, IsRunning}
use Rattle.th_book.specs.declared.setups.Setup.{Setup}
use Rattle.th_entries.specs.Entries.{begins, begins_from, continues, entry_behind, entry_line, index_of, last_before, length_at}
use Rattle.th_entries.specs.declared.entries.HeightKind.{HeightKind}
use Rattle.th_entries.specs.declared.entries.HeightKind.TheVariants.{Reflector, Instrument}
use Rattle.th_mend.proofs.LastLemmas.{last-lt, last-none}
use Rattle.th_mend.specs.Reached.{has_coordinate}
use Rattle.th_mend.specs.Inside.Forces.{AreForces, force_at, force_with, forces_with, height_of, is_same, none_if, setup_on}
use Rattle.th_mend.specs.declared.forces.Forces.{Forces}

-- the last entry that begins before a line, in the setup that runs behind it
abbrev open_before : ℕ → List ParsedLine → ℕ → Option ℕ
open_before index parsed n = option_and_then (λ from. last_below (begins_from parsed index from) n) (setup_of parsed (suc n))

-- a new setup has no entry and no height
no_entry : (index : ℕ) (parsed : List ParsedLine) (n : ℕ) → last_below (begins_from parsed index n) n ≡ None
no_entry index parsed n = last-none (begins_from parsed index n) n (λ k below. and_left (nat_le n k) (begins index parsed k) (lt-leb n k below))

no_height : (index : ℕ) (parsed : List ParsedLine) (n : ℕ) → last_below (holds_from parsed index n) n ≡ None
no_height index parsed n = last-none (holds_from parsed index n) n (λ k below. and_left (nat_le n k) (holds index (words_at parsed k)) (lt-leb n k below))

-- what a setup has before a line: its last heights from its own line on
record Has (parsed : List ParsedLine) (from n : ℕ) (setup : Setup) : Type 0 where
  pub instrument : IsHeight instrument_height parsed from n setup.instrument
  pub reflector : IsHeight reflector_height parsed from n setup.reflector

height : (kind : HeightKind) (parsed : List ParsedLine) (from n : ℕ) (setup : Setup) → Has parsed from n setup → IsHeight (index_of kind) parsed from n (height_of kind setup)
height Reflector parsed from n setup has = has.reflector
height Instrument parsed from n setup has = has.instrument

abbrev IsOn : List ParsedLine → ℕ → Option ℕ → Option Setup → Type 0
IsOn parsed n None None = Unit {0}
IsOn parsed n None (Some setup) = ⊥
IsOn parsed n (Some from) None = ⊥
IsOn parsed n (Some from) (Some setup) = Has parsed from n setup

-- the setup of a line, before its heights, is the one that runs behind it
on_line : (parsed : List ParsedLine) (n : ℕ) (running : Option Setup) → IsWhole (words_at parsed n) (entered_by (words_at parsed n)) → IsRunning parsed n (setup_of parsed n) running → IsOn parsed n (setup_of parsed (suc n)) (setup_on running (entered_by (words_at parsed n)).station)
on_line parsed n running whole runs = go (is_setup (words_at parsed n)) (point_name (words_at parsed n)) refl whole.station
  where
    new : (index : ℕ) → IsHeight index parsed n n None
    new index = record {
      length = ap (option_and_then (λ k. length_in index (words_at parsed k))) (sym (no_height index parsed n));
      there = ap is_some (sym (no_height index parsed n));
    }

    kept : (found : Option ℕ) (held : Option Setup) → IsRunning parsed n found held → IsOn parsed n found held
    kept None None r = tt
    kept None (Some own) r = r
    kept (Some from) None r = r
    kept (Some from) (Some own) r = record { instrument = r.instrument; reflector = r.reflector }

    go : (begins : Bool) (name : Option (List ℕ)) → point_name (words_at parsed n) ≡ name → is_some (cond begins name None) ≡ begins → IsOn parsed n (cond begins (Some n) (setup_of parsed n)) (setup_on running (cond begins name None))
    go true None is e = absurd (false≢true e)
    go true (Some name) is e = record { instrument = new instrument_height; reflector = new reflector_height }
    go false name is e = kept (setup_of parsed n) running runs

-- a length repeats the last height exactly where its line continues an entry
continued : (parsed : List ParsedLine) (kind : HeightKind) (n from : ℕ) (setup : Setup) → setup_of parsed (suc n) ≡ Some from → Has parsed from n setup → is_same (height_of kind setup) (length_at (index_of kind) parsed n) ≡ continues (index_of kind) parsed n
continued parsed kind n from setup is has =
    go (last_below (holds_from parsed (index_of kind) from) n) (height_of kind setup) (height kind parsed from n setup has).length (height kind parsed from n setup has).there
    ∙ ap (λ found. option_map_or (λ before. int_eq (length_at (index_of kind) parsed before) (length_at (index_of kind) parsed n)) found false) (sym before_is)
  where
    before_is : last_before (index_of kind) parsed n ≡ last_below (holds_from parsed (index_of kind) from) n
    before_is = ap (option_and_then (λ own. last_below (holds_from parsed (index_of kind) own) n)) is

    go : (found : Option ℕ) (last : Option ℤ) → last ≡ option_and_then (λ k. length_in (index_of kind) (words_at parsed k)) found → is_some last ≡ is_some found → is_same last (length_at (index_of kind) parsed n) ≡ option_map_or (λ before. int_eq (length_at (index_of kind) parsed before) (length_at (index_of kind) parsed n)) found false
    go None None e there = refl
    go None (Some own) e there = absurd (true≢false there)
    go (Some k) None e there = absurd (false≢true there)
    go (Some k) (Some own) e there = ap (λ length. int_eq length (length_at (index_of kind) parsed n)) (ap known e)

-- a setup that begins has no entry yet
begun : (index : ℕ) (parsed : List ParsedLine) (n : ℕ) (station : Bool) (before : Option ℕ) → station ≡ is_setup (words_at parsed n) → before ≡ force_at index parsed n → none_if station before ≡ open_before index parsed n
begun index parsed n station before whole was = ap (λ own. none_if own before) whole ∙ go (is_setup (words_at parsed n)) refl
  where
    last : Option ℕ → Option ℕ
    last setup = option_and_then (λ from. last_below (begins_from parsed index from) n) setup

    go : (begins : Bool) → is_setup (words_at parsed n) ≡ begins → none_if begins before ≡ last (cond (is_setup (words_at parsed n)) (Some n) (setup_of parsed n))
    go true is = sym (ap last (cond-true (is_setup (words_at parsed n)) (Some n) (setup_of parsed n) is) ∙ no_entry index parsed n)
    go false is = was ∙ sym (ap last (cond-false (is_setup (words_at parsed n)) (Some n) (setup_of parsed n) is))

-- the last place that begins an entry, with one more line
one_more : (index : ℕ) (parsed : List ParsedLine) (from n : ℕ) (begun : Bool) → from < suc n → begins index parsed n ≡ begun → last_below (begins_from parsed index from) (suc n) ≡ cond begun (Some n) (last_below (begins_from parsed index from) n)
one_more index parsed from n begun before is =
    let late : nat_le from n ≡ true = le-leb from n (omega (arith, before)) in
    ap (λ own. cond (own && begins index parsed n) (Some n) (last_below (begins_from parsed index from) n)) late
    ∙ ap (λ own. cond own (Some n) (last_below (begins_from parsed index from) n)) is

-- the entry in force behind one more line
force_more : (parsed : List ParsedLine) (kind : HeightKind) (n : ℕ) (setup : Option Setup) (own : Option ℤ) → IsOn parsed n (setup_of parsed (suc n)) setup → own ≡ length_in (index_of kind) (words_at parsed n) → is_some own ≡ holds (index_of kind) (words_at parsed n)
    → force_with kind setup own n (open_before (index_of kind) parsed n) ≡ force_at (index_of kind) parsed (suc n)
force_more parsed kind n setup own on read held = go (setup_of parsed (suc n)) setup own refl on read held
  where
    index : ℕ
    index = index_of kind

    before : Option ℕ → Option ℕ
    before found = option_and_then (λ from. last_below (begins_from parsed index from) n) found

    after : Option ℕ → Option ℕ
    after found = option_and_then (λ from. last_below (begins_from parsed index from) (suc n)) found

    turned : (repeated : Bool) (last : Option ℕ) → cond repeated last (Some n) ≡ cond (not repeated) (Some n) last
    turned true last = refl
    turned false last = refl

    go : (found : Option ℕ) (setup : Option Setup) (own : Option ℤ) → setup_of parsed (suc n) ≡ found → IsOn parsed n found setup → own ≡ length_in index (words_at parsed n) → is_some own ≡ holds index (words_at parsed n) → force_with kind setup own n (before found) ≡ after found
    go None None own is on read held = refl
    go None (Some setup) own is on read held = absurd on
    go (Some from) None own is on read held = absurd on
    go (Some from) (Some setup) None is on read held =
        let none : begins index parsed n ≡ false = ap (λ there. there && not (continues index parsed n)) (sym held) in
        sym (one_more index parsed from n false (last-lt (λ k. is_setup (words_at parsed k)) (suc n) from is) none)
    go (Some from) (Some setup) (Some length) is on read held =
        let here : length ≡ length_at index parsed n = ap known read in
        let repeats : is_same (height_of kind setup) length ≡ continues index parsed n = ap (is_same (height_of kind setup)) here ∙ continued parsed kind n from setup is on in
        let begins_if : begins index parsed n ≡ not (continues index parsed n) = ap (λ there. there && not (continues index parsed n)) (sym held) in
        ap (λ repeated. cond repeated (before (Some from)) (Some n)) repeats
        ∙ turned (continues index parsed n) (before (Some from))
        ∙ sym (one_more index parsed from n (not (continues index parsed n)) (last-lt (λ k. is_setup (words_at parsed k)) (suc n) from is) begins_if)

-- the entries in force behind a block
pub forces_more : (parsed : List ParsedLine) (n : ℕ) (running : Option Setup) (forces : Forces) → IsWhole (words_at parsed n) (entered_by (words_at parsed n)) → IsRunning parsed n (setup_of parsed n) running → AreForces parsed n forces
    → AreForces parsed (suc n) (forces_with running (entered_by (words_at parsed n)) n forces)
forces_more parsed n running forces whole runs was =
    let entered = entered_by (words_at parsed n) in
    let on = on_line parsed n running whole runs in
    let setup = setup_on running entered.station in
    record {
      reflector = ap (force_with Reflector setup entered.reflector n) (begun reflector_height parsed n (is_some entered.station) forces.reflector whole.station was.reflector)
          ∙ force_more parsed Reflector n setup entered.reflector on refl whole.reflector;
      instrument = ap (force_with Instrument setup entered.instrument n) (begun instrument_height parsed n (is_some entered.station) forces.instrument whole.station was.instrument)
          ∙ force_more parsed Instrument n setup entered.instrument on refl whole.instrument;
    }

-- a blank line begins no entry
blank-begins : (index : ℕ) (parsed : List ParsedLine) (n : ℕ) → words_at parsed n ≡ [] → begins index parsed n ≡ false
blank-begins index parsed n blank = ap (λ own. holds index own && not (continues index parsed n)) blank

blank-force : (index : ℕ) (parsed : List ParsedLine) (n : ℕ) → words_at parsed n ≡ [] → force_at index parsed n ≡ force_at index parsed (suc n)
blank-force index parsed n blank =
    go (setup_of parsed n)
    ∙ ap (option_and_then (λ from. last_below (begins_from parsed index from) (suc n))) (sym (cond-false (is_setup (words_at parsed n)) (Some n) (setup_of parsed n) (ap is_setup blank)))
  where
    go : (setup : Option ℕ) → option_and_then (λ from. last_below (begins_from parsed index from) n) setup ≡ option_and_then (λ from. last_below (begins_from parsed index from) (suc n)) setup
    go None = refl
    go (Some from) = sym (cond-false (begins_from parsed index from n) (Some n) (last_below (begins_from parsed index from) n) (and_right (nat_le from n) (begins index parsed n) (blank-begins index parsed n blank)))

-- the entries in force behind a blank line
pub forces_blank : (parsed : List ParsedLine) (n : ℕ) (forces : Forces) → words_at parsed n ≡ [] → AreForces parsed n forces → AreForces parsed (suc n) forces
forces_blank parsed n forces blank was = record {
  reflector = was.reflector ∙ blank-force reflector_height parsed n blank;
  instrument = was.instrument ∙ blank-force instrument_height parsed n blank;
}

-- what the law of sound books says
abbrev pub Law : Type 0
Law = (parsed : List ParsedLine) (place : ℕ) → first_fault parsed ≡ None → place < length parsed → IsSound (line_at parsed place)

-- the words of a block are those at its place
pub says_at : (parsed : List ParsedLine) (n : ℕ) (running : Option Setup) (entered : Entered) (words : List Parts) → IsBlockAt parsed n running entered words → words ≡ words_at parsed n
says_at parsed n running entered words is = is.says ∙ sym (ap words_in is.is)

-- the next line is a block
pub forces_next : (parsed : List ParsedLine) (n : ℕ) (running : Option Setup) (entered : Entered) (words : List Parts) (forces new : Forces) → Law → IsBlockAt parsed n running entered words → AreForces parsed n forces
    → new ≡ forces_with running entered n forces → AreForces parsed (suc n) new
forces_next parsed n running entered words forces new law is was after =
    let sound : AreSound (words_at parsed n) = subst AreSound (sym (ap words_in is.is)) (subst IsSound is.is (law parsed n is.here.faultless is.here.within)) in
    let enters : entered ≡ entered_by (words_at parsed n) = is.enters ∙ ap entered_by (says_at parsed n running entered words is) in
    subst (AreForces parsed (suc n)) (sym (after ∙ ap (λ own. forces_with running own n forces) enters))
    (forces_more parsed n running forces sound.whole is.runs was)

-- a sight is no setup, so its entry is that of the setup before it
pub in_force-sight : (index : ℕ) (parsed : List ParsedLine) (place : ℕ) → is_sight (words_at parsed place) ≡ true → entry_behind index parsed place ≡ entry_line index parsed place
in_force-sight index parsed place sight =
    let words = words_at parsed place in
    let none : is_setup words ≡ false = ap (λ own. not own && has_coordinate words) sight in
    ap (option_and_then (λ from. last_below (begins_from parsed index from) (suc place))) (cond-false (is_setup words) (Some place) (setup_of parsed place) none)
