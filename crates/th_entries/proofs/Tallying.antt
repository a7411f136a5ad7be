-- What is known after one more line of a book without a fault.
use Rattle.std.proofs.Common.{◌≡◌, ℕ, ℤ, suc, ◌+◌, ◌<◌, Bool, true, false, not, cond, ◌&&◌, ◌||◌, List, [], ◌∷◌, ◌++◌, Option, Some, None, length, refl, sym, ap, ◌∙◌, subst, arith, append_assoc}
use Rattle.std.specs.Prelude.{is_some, option_and_then, option_map, option_to_list}
use Rattle.std.specs.List.{list_any}
use Rattle.std.specs.Option.{option_or}
use Rattle.std.proofs.lemmas.List.{append-nil}
use Rattle.gsi_word.specs.Indexes.{instrument_height}
use Rattle.gsi_word.specs.Words.{Parts}
use Rattle.gsi_word.specs.Names.{name_of}
use Rattle.th_book.specs.Lines.{ParsedLine, holds, is_setup, is_sight, length_in, point_name, words_in}
use Rattle.th_book.specs.Places.{holds_from, last_below, setup_of, station_at, words_at}
use Rattle.th_book.specs.Faults.{are_one, begins_with_point}
use Rattle.th_book.specs.Entered.{AreSound, IsWhole, entered_by}
use Rattle.th_book.specs.Setups.{IsRunning}
use Rattle.th_book.specs.Witnesses.{IsBlankAt, IsBlockAt}
use Rattle.th_book.specs.declared.entries.Entered.{Entered}
use Rattle.th_book.specs.declared.setups.Setup.{Setup}
use Rattle.th_entries.specs.Below.{all_below}
use Rattle.th_entries.specs.Listed.{IsListed}
use Rattle.th_entries.specs.Reviews.{is_lookalike, is_measured, resembles_setup}
use Rattle.th_entries.specs.Spellings.{Mention, mention_in, mentions_at, without_zeros}
use Rattle.th_entries.specs.Seen.{AreSeenIn}
use Rattle.th_entries.specs.Counts.{counts_below}
use Rattle.th_entries.specs.Inside.Counts.{with_block, with_line}
use Rattle.th_entries.specs.Inside.Running.{Entering, entering_after}
use Rattle.th_entries.specs.Inside.Seen.{mention_by}
use Rattle.th_entries.specs.Oddities.{changes_height, differ, height_before, is_direction}
use Rattle.th_entries.specs.Inside.Oddities.{changes, line_if}
use Rattle.th_entries.specs.Inside.Tallies.{HasBlock, IsEmpty, IsEntering, IsTallied, changes_below, directions_below, entering, lookalikes_below, looks}
use Rattle.th_entries.specs.Inside.Watches.{IsWatched}
use Rattle.th_entries.specs.declared.counts.BookCount.{BookCount}
use Rattle.th_entries.specs.declared.seen.SeenNames.{SeenNames}
use Rattle.th_entries.specs.declared.sights.SightWatch.{SightWatch}
use Rattle.th_entries.specs.declared.tallies.Tally.{Tally}
use Rattle.th_entries.proofs.Entering.{entering-blank, entering-more}
use Rattle.th_entries.proofs.WatchLemmas.{Law, blank-counted, block-counted, few, sound_at}

-- what a block mentions by what it enters is what it mentions
mention_same : (book line : ℕ) (words : List Parts) → mention_by book line (entered_by words) words ≡ mention_in book line words
mention_same book line [] = refl
mention_same book line (word ∷ words) = go (is_sight (word ∷ words)) (is_setup (word ∷ words)) (name_of word.body)
  where
    here : List ℕ → Mention
    here name = record { here = record { book = book; line = line; name = name }; bytes = without_zeros word.body }

    go : (sight setup : Bool) (name : Option (List ℕ)) → option_map here (option_or (cond sight name None) (cond setup name None)) ≡ cond (sight || setup) (option_map here name) None
    go true setup (Some name) = refl
    go true true None = refl
    go true false None = refl
    go false true name = refl
    go false false name = refl

-- the station of the running setup is that at its place
station_same : (parsed : List ParsedLine) (n : ℕ) (found : Option ℕ) (running : Option Setup) → IsRunning parsed n found running → option_map (λ (setup : Setup). setup.station) running ≡ option_and_then (λ (from : ℕ). point_name (words_at parsed from)) found
station_same parsed n None None runs = refl
station_same parsed n None (Some setup) runs = absurd runs
station_same parsed n (Some from) None runs = absurd runs
station_same parsed n (Some from) (Some setup) runs = sym runs.name

-- what looks like a setup to the code does so at its place
looks_same : (parsed : List ParsedLine) (n : ℕ) (station : Option (List ℕ)) → station ≡ station_at parsed n → IsWhole (words_at parsed n) (entered_by (words_at parsed n)) → looks (words_at parsed n) (entered_by (words_at parsed n)) station ≡ is_lookalike parsed n
looks_same parsed n station same whole =
    let words = words_at parsed n in
    let rest = not (are_one station (point_name words)) in
    let none = not (list_any is_measured words) in
    ap (λ own. (begins_with_point words && (own && (not (is_some (entered_by words).target) && (not (is_some (entered_by words).station) && none)))) && rest) whole.instrument
    ∙ ap (λ own. (begins_with_point words && (holds instrument_height words && (not own && (not (is_some (entered_by words).station) && none)))) && rest) whole.target
    ∙ ap (λ own. (begins_with_point words && (holds instrument_height words && (not (is_sight words) && (not own && none)))) && rest) whole.station
    ∙ ap (λ own. resembles_setup words && not (are_one own (point_name words))) same

-- a sight that enters another height to the code does so at its place
changes_same : (parsed : List ParsedLine) (n : ℕ) (running : Option Setup) → IsWhole (words_at parsed n) (entered_by (words_at parsed n)) → IsRunning parsed n (setup_of parsed n) running → changes running (entered_by (words_at parsed n)) ≡ changes_height parsed n
changes_same parsed n running whole runs = go (setup_of parsed n) running runs
  where
    words : List Parts
    words = words_at parsed n

    before : Option ℕ → Option ℤ
    before setup = option_and_then (λ from. option_and_then (λ k. length_in instrument_height (words_at parsed k)) (last_below (holds_from parsed instrument_height from) n)) setup

    no_change : (sight : Bool) → false ≡ (sight && false)
    no_change true = refl
    no_change false = refl

    go : (found : Option ℕ) (own : Option Setup) → IsRunning parsed n found own → changes own (entered_by words) ≡ (is_sight words && differ (before found) (length_in instrument_height words))
    go None None r = no_change (is_sight words)
    go None (Some own) r = absurd r
    go (Some from) None r = absurd r
    go (Some from) (Some own) r =
        ap (λ sight. sight && differ own.instrument (length_in instrument_height words)) whole.target
        ∙ ap (λ height. is_sight words && differ height (length_in instrument_height words)) r.instrument.length

-- the next line is a block
pub block-taken : (names : SeenNames) (number : ℕ) (parsed : List ParsedLine) (n : ℕ) (running : Option Setup) (old new : Tally) (counts : BookCount) (watch : SightWatch) → n < 4294967295 → AreSound (words_at parsed n) → counts ≡ counts_below parsed (suc n) → IsWatched parsed (suc n) watch → HasBlock running (words_at parsed n) (record old { counts = counts; watch = watch }) new → IsRunning parsed n (setup_of parsed n) running → IsTallied names number parsed n old → IsTallied names number parsed (suc n) new
block-taken names number parsed n running old new counts watch small sound counted seen has runs was = record {
  seen = λ before own. subst (λ (mentions : List Mention). AreSeenIn mentions new.names) (append_assoc before (mentioned n) (option_to_list (mention_by old.book counts.lines entered words)) ∙ ap (λ (last : List Mention). before ++ (mentioned n ++ last)) (ap option_to_list mentions))
      (has.seen (before ++ mentioned n) (was.seen before own));
  book = has.book ∙ was.book;
  counts = has.counts ∙ counted;
  watch = subst (IsWatched parsed (suc n)) (sym has.watch) seen;
  entered = subst (IsEntering number parsed (suc n)) (sym after) (entering-more number parsed n running (entering old) small sound.whole runs was.entered);
  lookalikes = subst (λ (lines : List ℕ). IsListed lines new.lookalikes)
      (ap (λ own. lookalikes_below parsed n ++ line_if own counts.lines) (looks_same parsed n station (station_same parsed n (setup_of parsed n) running runs) sound.whole)
      ∙ ap (λ own. lookalikes_below parsed n ++ line_if (is_lookalike parsed n) own) line)
      (has.lookalikes (lookalikes_below parsed n) was.lookalikes);
  directions = subst (λ (lines : List ℕ). IsListed lines new.directions)
      (ap (λ own. directions_below parsed n ++ line_if (is_direction words) own) line)
      (has.directions (directions_below parsed n) was.directions);
  changes = subst (λ (lines : List ℕ). IsListed lines new.changes)
      (ap (λ own. changes_below parsed n ++ line_if own counts.lines) (changes_same parsed n running sound.whole runs)
      ∙ ap (λ own. changes_below parsed n ++ line_if (changes_height parsed n) own) line)
      (has.changes (changes_below parsed n) was.changes);
}
  where
    words : List Parts
    words = words_at parsed n

    entered : Entered
    entered = entered_by words

    station : Option (List ℕ)
    station = option_map (λ (setup : Setup). setup.station) running

    line : counts.lines ≡ n + 1
    line = omega (arith, ap (λ (own : BookCount). own.lines) counted)

    mentioned : ℕ → List Mention
    mentioned many = all_below (mentions_at number parsed) many

    mentions : mention_by old.book counts.lines entered words ≡ mention_in number (n + 1) words
    mentions = ap (λ own. mention_by own counts.lines entered words) was.book
        ∙ ap (λ own. mention_by number own entered words) line
        ∙ mention_same number (n + 1) words

    after : entering new ≡ entering_after number (n + 1) running words entered (entering old)
    after =
        has.entered
        ∙ ap (λ book. entering_after book counts.lines running words entered (entering old)) was.book
        ∙ ap (λ own. entering_after number own running words entered (entering old)) line

-- the next line says nothing
pub blank-taken : (names : SeenNames) (number : ℕ) (parsed : List ParsedLine) (n : ℕ) (old : Tally) (counts : BookCount) (watch : SightWatch) → words_at parsed n ≡ [] → counts ≡ counts_below parsed (suc n) → IsWatched parsed (suc n) watch → IsTallied names number parsed n old → IsTallied names number parsed (suc n) (record old { counts = counts; watch = watch })
blank-taken names number parsed n old counts watch blank counted watched was = record {
  seen = λ before own. subst (λ (mentions : List Mention). AreSeenIn (before ++ mentions) old.names) (sym (append-nil mentioned) ∙ ap (λ own. mentioned ++ option_to_list (mention_in number (n + 1) own)) (sym blank)) (was.seen before own);
  book = was.book;
  counts = counted;
  watch = watched;
  entered = entering-blank number parsed n (entering old) blank was.entered;
  lookalikes = subst (λ (lines : List ℕ). IsListed lines old.lookalikes) (sym (append-nil (lookalikes_below parsed n)) ∙ ap (λ own. lookalikes_below parsed n ++ line_if own (n + 1)) (sym none)) was.lookalikes;
  directions = subst (λ (lines : List ℕ). IsListed lines old.directions) (sym (append-nil (directions_below parsed n)) ∙ ap (λ own. directions_below parsed n ++ line_if own (n + 1)) (sym (ap is_direction blank))) was.directions;
  changes = subst (λ (lines : List ℕ). IsListed lines old.changes) (sym (append-nil (changes_below parsed n)) ∙ ap (λ own. changes_below parsed n ++ line_if own (n + 1)) (sym unchanged)) was.changes;
}
  where
    mentioned : List Mention
    mentioned = all_below (mentions_at number parsed) n

    none : is_lookalike parsed n ≡ false
    none = ap (λ own. resembles_setup own && not (are_one (station_at parsed n) (point_name own))) blank

    unchanged : changes_height parsed n ≡ false
    unchanged = ap (λ own. is_sight own && differ (height_before parsed n) (length_in instrument_height own)) blank

-- before its first line nothing is known of a book
pub empty-tallied : (names : SeenNames) (number : ℕ) (parsed : List ParsedLine) (tally : Tally) → IsEmpty names number tally → IsTallied names number parsed 0 tally
empty-tallied names number parsed tally is = record {
  seen = λ before own. subst (λ (mentions : List Mention). AreSeenIn mentions tally.names) (sym (append-nil before)) (subst (AreSeenIn before) (sym is.seen) own);
  book = is.book;
  counts = is.counts;
  watch = is.watch parsed;
  entered = subst (λ (own : Entering). IsEntering number parsed 0 own) (sym is.entered) (record { reflector = refl; instrument = refl; entries = refl });
  lookalikes = is.lookalikes;
  directions = is.directions;
  changes = is.changes;
}

-- the next line is blank
pub blank-next : (names : SeenNames) (number : ℕ) (parsed : List ParsedLine) (n : ℕ) (old : Tally) (counts : BookCount) (watch : SightWatch) → IsBlankAt parsed n → counts ≡ with_line old.counts → IsWatched parsed (suc n) watch
    → IsTallied names number parsed n old → IsTallied names number parsed (suc n) (record old { counts = counts; watch = watch })
blank-next names number parsed n old counts watch is more watched was =
    blank-taken names number parsed n old counts watch (ap words_in is.blank) (blank-counted parsed n old.counts counts is more was.counts) watched was

-- the next line is a block
pub block-next : (names : SeenNames) (number : ℕ) (parsed : List ParsedLine) (n : ℕ) (old new : Tally) (counts : BookCount) (watch : SightWatch) (setup : Option Setup) (entered : Entered) (words : List Parts) → Law → IsBlockAt parsed n setup entered words
    → counts ≡ with_block entered (with_line old.counts) → IsWatched parsed (suc n) watch → (entered ≡ entered_by words → HasBlock setup words (record old { counts = counts; watch = watch }) new)
    → IsTallied names number parsed n old → IsTallied names number parsed (suc n) new
block-next names number parsed n old new counts watch setup entered words law is more watched has was =
    let all : words_at parsed n ≡ words = ap words_in is.is ∙ sym is.says in
    block-taken names number parsed n setup old new counts watch (few n (length parsed) is.here.short is.here.within) (sound_at parsed n setup entered words law is)
    (block-counted parsed n old.counts counts setup entered words law is more was.counts) watched
    (subst (λ own. HasBlock setup own (record old { counts = counts; watch = watch }) new) (sym all) (has is.enters))
    is.runs
    was
