-- The observations of the mended book, from those of its lines.
use Rattle.std.proofs.Common.{◌≡◌, ℕ, ℤ, zero, suc, ◌+◌, ◌<◌, ◌==◌, ◌&&◌, ◌||◌, inl, inr, ◌+ℤ◌, ◌-ℤ◌, Bool, true, false, not, cond, List, [], ◌∷◌, Option, Some, None, Ok, length, map, refl, sym, ap, subst, ◌∙◌, arith, zero-add}
use Rattle.std.specs.List.{filter, range_with_len}
use Rattle.std.specs.Prelude.{All, Contains, is_some, option_and_then}
use Rattle.std.proofs.lemmas.Bool.{and_parts, and_right, eqb-true, false≢true, not-true, or_left, or_right, true≢false}
use Rattle.std.proofs.lemmas.List.Elements.{All-contains}
use Rattle.std.proofs.lemmas.Option.{none-some}
use Rattle.gsi_word.specs.Indexes.{height_difference, instrument_height, point_number, reflector_height, station_easting, station_height, station_northing}
use Rattle.gsi_word.specs.Words.{Parts}
use Rattle.gsi_block.specs.Blocks.{BlockParts}
use Rattle.th_observations.specs.Observed.{Observed}
use Rattle.th_book.specs.Books.{known, known_name, observations_of, observed_at}
use Rattle.th_book.proofs.Faultless.{IsFaultless}
use Rattle.th_book.specs.Faults.{begins_with_point, first_fault}
use Rattle.th_book.specs.Lines.{ParsedLine, holds, is_setup, is_sight, length_in, point_name, words_in}
use Rattle.th_book.specs.Places.{height_at, holds_from, last_below, last_with, line_at, setup_of, station_at, words_at}
use Rattle.th_entries.specs.Entries.{index_of}
use Rattle.th_entries.specs.declared.entries.HeightKind.{HeightKind}
use Rattle.th_entries.specs.declared.entries.HeightKind.TheVariants.{Instrument, Reflector}
use Rattle.th_mend.specs.declared.changes.Reach.TheVariants.{Since}
use Rattle.th_mend.specs.declared.changes.What.{What}
use Rattle.th_mend.specs.declared.changes.What.TheVariants.{Height, LeftOut, OtherSign, Sighted, Station, Target}
use Rattle.th_mend.specs.Edits.{covers, index_changed}
use Rattle.th_mend.specs.MendedLines.{mended_words}
use Rattle.th_mend.specs.Reached.{has_coordinate, home, is_empty, own_fault, unless_sight}
use Rattle.th_mend.specs.declared.edits.Edit.{Edit}
use Rattle.th_mend.specs.declared.faults.MendKind.TheVariants.{BeginsSetup, NoSetup, NoSight}
use Rattle.th_mend.proofs.LastLemmas.{last-lt}
use Rattle.th_explain_laws.specs.Corrected.{corrected, corrected_at, corrected_height, edit_on, edited_by, is_left_out, leaves_out, renamed_by, station_edit, stays}
use Rattle.th_explain_laws.proofs.AddedLemmas.{first_adding}
use Rattle.th_explain_laws.proofs.EditLemmas.{AreApart, IsBegun, IsLocated, IsOfHeight, found_among, is_height, of_height, on_place}
use Rattle.th_explain_laws.proofs.HeightLemmas.{IsHeightLine, IsOfKind, adding, height_new}
use Rattle.th_explain_laws.proofs.LastLemmas.{last-same, last-true}
use Rattle.th_explain_laws.proofs.LineLemmas.{HasLength, IsCoordinate, IsFit, coordinate_stays, length_added, length_kept, length_none, sight_gone, sight_none}
use Rattle.th_explain_laws.proofs.NameLemmas.{name_kept}
use Rattle.th_explain_laws.proofs.PairLemmas.{ArePaired}
use Rattle.th_explain_laws.proofs.StandingLemmas.{HasStanding, IsRead, instrument_read, named, pointed, reflector_read, sighted_read, standing, words_fine}

-- a value that is there
there : {X : Type 0} (found : Option X) → is_some found ≡ true → (value : X) × (found ≡ Some value)
there None h = absurd (false≢true h)
there (Some value) h = (value, refl)

-- a height is of no left-out edit
height_stays : (edits : List Edit) (kind : HeightKind) (k : ℕ) → is_left_out (edit_on edits (index_of kind) k) ≡ false
height_stays edits kind k = by (edit_on edits (index_of kind) k) refl
  where
    never : (kind : HeightKind) (what : What) → (index_changed what == index_of kind) ≡ true → leaves_out what ≡ false
    never Reflector LeftOut e = absurd (false≢true e)
    never Instrument LeftOut e = absurd (false≢true e)
    never kind (Height own reach length) e = refl
    never kind (Sighted length) e = refl
    never kind OtherSign e = refl
    never kind (Target name) e = refl
    never kind (Station name) e = refl

    by : (edit : Option Edit) → edit_on edits (index_of kind) k ≡ edit → is_left_out edit ≡ false
    by None e = refl
    by (Some edit) e =
        let found = found_among (λ (edit : Edit). covers k edit && (index_changed edit.what == index_of kind)) edits edit e in
        never kind edit.what (and_parts (covers k edit) (index_changed edit.what == index_of kind) found.1).1

-- an edit of a height's index is of its kind
kind_of_index : (what : What) (kind : HeightKind) → (index_changed what == index_of kind) ≡ true → is_height what ≡ true
kind_of_index (Height own reach length) kind e = refl
kind_of_index (Sighted length) Reflector e = absurd (false≢true e)
kind_of_index (Sighted length) Instrument e = absurd (false≢true e)
kind_of_index LeftOut Reflector e = absurd (false≢true e)
kind_of_index LeftOut Instrument e = absurd (false≢true e)
kind_of_index OtherSign Reflector e = absurd (false≢true e)
kind_of_index OtherSign Instrument e = absurd (false≢true e)
kind_of_index (Target name) Reflector e = absurd (false≢true e)
kind_of_index (Target name) Instrument e = absurd (false≢true e)
kind_of_index (Station name) Reflector e = absurd (false≢true e)
kind_of_index (Station name) Instrument e = absurd (false≢true e)

no_point : (kind : HeightKind) → (point_number == index_of kind) ≡ false
no_point Reflector = refl
no_point Instrument = refl

easting : IsCoordinate station_easting
easting = record { point = refl; sighted = refl; reflector = refl; instrument = refl }

northing : IsCoordinate station_northing
northing = record { point = refl; sighted = refl; reflector = refl; instrument = refl }

height : IsCoordinate station_height
height = record { point = refl; sighted = refl; reflector = refl; instrument = refl }

-- a sight has no other fault
is_a_sight : (words : List Parts) → unless_sight words ≡ None → is_sight words ≡ true
is_a_sight words h = by (is_sight words) h
  where
    by : (sight : Bool) → cond sight None (Some NoSight) ≡ None → sight ≡ true
    by true h = refl
    by false h = absurd (none-some NoSight (sym h))

-- what is left out is a sight, and has no coordinate
left_words : (what : What) (words : List Parts) (home : Option ℕ) → leaves_out what ≡ true → own_fault what words home ≡ None → (is_sight words ≡ true) × (has_coordinate words ≡ false)
left_words (Height kind reach own) words home out h = absurd (false≢true out)
left_words (Sighted own) words home out h = absurd (false≢true out)
left_words OtherSign words home out h = absurd (false≢true out)
left_words (Target name) words home out h = absurd (false≢true out)
left_words (Station name) words home out h = absurd (false≢true out)
left_words LeftOut words home out h = by (is_sight words) (has_coordinate words) refl h
  where
    by : (sight coordinate : Bool) → is_sight words ≡ sight → cond (sight && coordinate) (Some BeginsSetup) (cond sight None (Some NoSight)) ≡ None → (sight ≡ true) × (coordinate ≡ false)
    by true true e h = absurd (none-some BeginsSetup (sym h))
    by true false e h = (refl, refl)
    by false coordinate e h = absurd (none-some NoSight (sym h))

-- an edit of a name or of a sight is in the line of a sight or of a setup
pub sight_or_setup : (what : What) (words : List Parts) (home : Option ℕ) → is_height what ≡ false → own_fault what words home ≡ None → (is_sight words || is_setup words) ≡ true
sight_or_setup (Height kind reach own) words home other h = absurd (true≢false other)
sight_or_setup (Sighted own) words home other h = or_left (is_sight words) (is_setup words) (is_a_sight words h)
sight_or_setup OtherSign words home other h = or_left (is_sight words) (is_setup words) (is_a_sight words h)
sight_or_setup (Target name) words home other h = or_left (is_sight words) (is_setup words) (is_a_sight words h)
sight_or_setup LeftOut words home other h = or_left (is_sight words) (is_setup words) (left_words LeftOut words home refl h).0
sight_or_setup (Station name) words home other h = or_right (is_sight words) (is_setup words) (by (is_setup words) h)
  where
    by : (setup : Bool) → cond setup None (Some NoSetup) ≡ None → setup ≡ true
    by true h = refl
    by false h = absurd (none-some NoSetup (sym h))

-- what leaves a sight out is no height
left_low : (what : What) → leaves_out what ≡ true → is_height what ≡ false
left_low (Height kind reach own) out = absurd (false≢true out)
left_low (Sighted own) out = refl
left_low LeftOut out = refl
left_low OtherSign out = refl
left_low (Target name) out = refl
left_low (Station name) out = refl

-- what holds of no words, and of the words of each mended block, holds of the words of both lines
paired_words : (edits : List Edit) (k : ℕ) (P : List Parts → List Parts → Type 0) (old new : ParsedLine) → ArePaired edits k old new → P [] []
    → ((block : BlockParts) (own : List Parts) → mended_words edits k block ≡ Ok own → IsFit edits k block.words → P block.words own) → P (words_in old) (words_in new)
paired_words edits k P old new (inl (was, is)) empty each =
    subst (λ old. P (words_in old) (words_in new)) (sym was) (subst (λ new. P [] (words_in new)) (sym is) empty)
paired_words edits k P old new (inr pair) empty each =
    subst (λ old. P (words_in old) (words_in new)) (sym pair.old_is) (subst (λ new. P pair.block.words (words_in new)) (sym pair.new_is) (each pair.block pair.own pair.words pair.fit))

kind_read : (kind : HeightKind) (words : List Parts) → IsFaultless words → IsRead (index_of kind) words
kind_read Reflector words fine = reflector_read words fine
kind_read Instrument words fine = instrument_read words fine

stays_same : (sight : Bool) → (sight && not false) ≡ sight
stays_same true = refl
stays_same false = refl

module _ (edits : List Edit) (k : ℕ) (old new : ParsedLine) (pair : ArePaired edits k old new) where
  abbrev pub on : Option Edit
  on = edit_on edits height_difference k

  -- a line of the mended book is a sight if it was one that stays
  pub sight_stays : IsFaultless (words_in old) → is_sight (words_in new) ≡ (is_sight (words_in old) && not (is_left_out on))
  sight_stays = paired_words edits k P old new pair (λ fine. refl) (λ block own made fit fine. from block own made fit fine (is_sight block.words) (is_left_out on) refl refl)
    where
      P : List Parts → List Parts → Type 0
      P words own = IsFaultless words → is_sight own ≡ (is_sight words && not (is_left_out on))

      from : (block : BlockParts) (own : List Parts) → mended_words edits k block ≡ Ok own → IsFit edits k block.words → IsFaultless block.words → (sight out : Bool) → is_sight block.words ≡ sight → is_left_out on ≡ out
          → is_sight own ≡ (is_sight block.words && not (is_left_out on))
      from block own made fit fine false out a b = sight_none edits k block own fit made a ∙ sym (ap (λ sight. sight && not (is_left_out on)) a)
      from block own made fit fine true true a b = sight_gone edits k block own fit made b ∙ sym (ap (λ sight. sight && not (is_left_out on)) a ∙ ap (λ out. not out) b)
      from block own made fit fine true false a b =
          let length = there (length_in height_difference block.words) (sighted_read block.words fine a) in
          (length_kept edits k block own fit made height_difference length.0 refl b length.1).holds ∙ sym (ap (λ sight. sight && not (is_left_out on)) a ∙ ap (λ out. not out) b)

  -- its word 33
  pub sighted_new : IsFaultless (words_in old) → is_sight (words_in old) ≡ true → is_left_out on ≡ false → known (length_in height_difference (words_in new)) ≡ edited_by on (known (length_in height_difference (words_in old)))
  sighted_new = paired_words edits k P old new pair (λ fine sight stays. absurd (false≢true sight)) each
    where
      P : List Parts → List Parts → Type 0
      P words own = IsFaultless words → is_sight words ≡ true → is_left_out on ≡ false → known (length_in height_difference own) ≡ edited_by on (known (length_in height_difference words))

      each : (block : BlockParts) (own : List Parts) → mended_words edits k block ≡ Ok own → IsFit edits k block.words → P block.words own
      each block own made fit fine sight stays =
          let length = there (length_in height_difference block.words) (sighted_read block.words fine sight) in
          ap known (length_kept edits k block own fit made height_difference length.0 refl stays length.1).length ∙ sym (ap (λ found. edited_by on (known found)) length.1)

  -- its coordinates
  coordinates_stay : has_coordinate (words_in new) ≡ has_coordinate (words_in old)
  coordinates_stay = paired_words edits k (λ words own. has_coordinate own ≡ has_coordinate words) old new pair refl each
    where
      each : (block : BlockParts) (own : List Parts) → mended_words edits k block ≡ Ok own → IsFit edits k block.words → has_coordinate own ≡ has_coordinate block.words
      each block own made fit =
          ap (λ found. found || (holds station_northing own || holds station_height own)) (coordinate_stays edits k block own fit made station_easting easting)
          ∙ ap (λ found. holds station_easting block.words || (found || holds station_height own)) (coordinate_stays edits k block own fit made station_northing northing)
          ∙ ap (λ found. holds station_easting block.words || (holds station_northing block.words || found)) (coordinate_stays edits k block own fit made station_height height)

  -- a setup stays a setup
  pub setup_stays : IsFaultless (words_in old) → (is_left_out on ≡ true → (is_sight (words_in old) ≡ true) × (has_coordinate (words_in old) ≡ false)) → is_setup (words_in new) ≡ is_setup (words_in old)
  setup_stays fine left = by (is_left_out on) refl
    where
      by : (out : Bool) → is_left_out on ≡ out → is_setup (words_in new) ≡ is_setup (words_in old)
      by false e =
          let same : is_sight (words_in new) ≡ is_sight (words_in old) = sight_stays fine ∙ ap (λ out. is_sight (words_in old) && not out) e ∙ stays_same (is_sight (words_in old)) in
          ap (λ sight. not sight && has_coordinate (words_in new)) same ∙ ap (λ found. not (is_sight (words_in old)) && found) coordinates_stay
      by true e =
          let words = left e in
          and_right (not (is_sight (words_in new))) (has_coordinate (words_in new)) (coordinates_stay ∙ words.1)
          ∙ sym (and_right (not (is_sight (words_in old))) (has_coordinate (words_in old)) words.1)

  -- its heights
  pub height_line : (kind : HeightKind) → IsFaultless (words_in old) → ((own : ℤ) → first_adding (index_of kind) k edits ≡ Some own → is_empty (words_in old) ≡ false) → IsHeightLine edits (index_of kind) k (words_in old) (words_in new)
  height_line kind = paired_words edits k P old new pair
      (λ fine some. record { kept = λ h. absurd (false≢true h); added = λ length lacks h. absurd (true≢false (some length h)); none = λ lacks h. refl })
      (λ block own made fit fine some. record {
        kept = λ h.
            let length = there (length_in (index_of kind) block.words) (kind_read kind block.words fine h) in
            subst (λ found. HasLength (index_of kind) own (edited_by (edit_on edits (index_of kind) k) (known found))) (sym length.1)
            (length_kept edits k block own fit made (index_of kind) length.0 (no_point kind) (height_stays edits kind k) length.1);
        added = λ length lacks h. length_added edits k block own fit made (index_of kind) length (no_point kind) lacks h;
        none = λ lacks h. length_none edits k block own fit made (index_of kind) (no_point kind) lacks h;
      })
    where
      P : List Parts → List Parts → Type 0
      P words own = IsFaultless words → ((own : ℤ) → first_adding (index_of kind) k edits ≡ Some own → is_empty words ≡ false) → IsHeightLine edits (index_of kind) k words own

  -- its name
  pub name_new : (before : List ℕ) → begins_with_point (words_in old) ≡ true → point_name (words_in old) ≡ Some before → point_name (words_in new) ≡ Some (renamed_by (edit_on edits point_number k) before)
  name_new before = paired_words edits k P old new pair (λ point named. absurd (false≢true point)) (λ block own made fit point named. name_kept edits k block own before fit made point named)
    where
      P : List Parts → List Parts → Type 0
      P words own = begins_with_point words ≡ true → point_name words ≡ Some before → point_name own ≡ Some (renamed_by (edit_on edits point_number k) before)

-- what is taken of a range of places
pub mapped_range : (f g : ℕ → Observed) (p q : ℕ → Bool) (first many : ℕ) → ((k : ℕ) → k < many → p (first + k) ≡ q (first + k)) → ((k : ℕ) → k < many → q (first + k) ≡ true → f (first + k) ≡ g (first + k))
    → map f (filter p (range_with_len first many)) ≡ map g (filter q (range_with_len first many))
mapped_range f g p q first zero same agree = refl
mapped_range f g p q first (suc many) same agree =
    by (p first) (q first) refl refl
    (mapped_range f g p q (first + 1) many
    (λ k within. let next : first + suc k ≡ (first + 1) + k = omega arith in subst (λ own. p own ≡ q own) next (same (suc k) (omega arith)))
    (λ k within. let next : first + suc k ≡ (first + 1) + k = omega arith in subst (λ own. q own ≡ true → f own ≡ g own) next (agree (suc k) (omega arith))))
  where
    start : first + 0 ≡ first
    start = omega arith

    here : p first ≡ q first
    here = subst (λ own. p own ≡ q own) start (same 0 (omega arith))

    later : List ℕ
    later = range_with_len (first + 1) many

    by : (one other : Bool) → p first ≡ one → q first ≡ other → map f (filter p later) ≡ map g (filter q later) → map f (cond one (first ∷ filter p later) (filter p later)) ≡ map g (cond other (first ∷ filter q later) (filter q later))
    by true true a b rest = ap (λ item. item ∷ map f (filter p later)) (subst (λ own. q own ≡ true → f own ≡ g own) start (agree 0 (omega arith)) b) ∙ ap (λ items. g first ∷ items) rest
    by false false a b rest = rest
    by true false a b rest = absurd (true≢false (sym a ∙ here ∙ b))
    by false true a b rest = absurd (false≢true (sym a ∙ here ∙ b))

module _ (edits : List Edit) (parsed new : List ParsedLine) (fine : first_fault parsed ≡ None) (long : length new ≡ length parsed) (apart : AreApart edits) (located : All (IsLocated parsed) edits)
    (pairs : (k : ℕ) → k < length parsed → ArePaired edits k (line_at parsed k) (line_at new k)) where
  loc : (edit : Edit) → Contains edits edit → IsLocated parsed edit
  loc edit among = All-contains (IsLocated parsed) edits edit located among

  -- a line whose sight is left out
  left_at : (k : ℕ) → is_left_out (edit_on edits height_difference k) ≡ true → (is_sight (words_at parsed k) ≡ true) × (has_coordinate (words_at parsed k) ≡ false)
  left_at k out = by (edit_on edits height_difference k) refl out
    where
      by : (edit : Option Edit) → edit_on edits height_difference k ≡ edit → is_left_out edit ≡ true → (is_sight (words_at parsed k) ≡ true) × (has_coordinate (words_at parsed k) ≡ false)
      by None e out = absurd (false≢true out)
      by (Some edit) e out =
          let found = found_among (λ (edit : Edit). covers k edit && (index_changed edit.what == height_difference)) edits edit e in
          let reach : covers k edit ≡ true = (and_parts (covers k edit) (index_changed edit.what == height_difference) found.1).0 in
          left_words edit.what (words_at parsed k) (home edit.what parsed k) out (on_place parsed edit k (loc edit found.0) (left_low edit.what out) reach)

  setups : (k : ℕ) → k < length parsed → is_setup (words_at new k) ≡ is_setup (words_at parsed k)
  setups k within = setup_stays edits k (line_at parsed k) (line_at new k) (pairs k within) (words_fine parsed k fine within) (left_at k)

  -- the edits of a height
  heights : (kind : HeightKind) (edit : Edit) → Contains edits edit → (index_changed edit.what == index_of kind) ≡ true → IsOfKind (index_of kind) parsed edit
  heights kind edit among same = by edit.what refl same
    where
      by : (what : What) → edit.what ≡ what → (index_changed what == index_of kind) ≡ true → IsOfKind (index_of kind) parsed edit
      by (Height own reach length) is same =
          let one : index_of own ≡ index_of kind = eqb-true (index_of own) (index_of kind) same in
          record { kind = own; reach = reach; own = length; what = is; indexed = same; is = subst (λ index. IsOfHeight index reach parsed edit) one (of_height parsed edit own reach length is (loc edit among)) }
      by (Sighted length) is same = absurd (false≢true (kind_of_index (Sighted length) kind same))
      by LeftOut is same = absurd (false≢true (kind_of_index LeftOut kind same))
      by OtherSign is same = absurd (false≢true (kind_of_index OtherSign kind same))
      by (Target name) is same = absurd (false≢true (kind_of_index (Target name) kind same))
      by (Station name) is same = absurd (false≢true (kind_of_index (Station name) kind same))

  -- a line that gets a word has words
  added_some : (kind : HeightKind) (k : ℕ) (own : ℤ) → first_adding (index_of kind) k edits ≡ Some own → is_empty (words_at parsed k) ≡ false
  added_some kind k own h =
      let adds = adding edits (index_of kind) k own h in
      let same : (index_changed adds.edit.what == index_of kind) ≡ true = ap (λ what. index_changed what == index_of kind) adds.what ∙ adds.indexed in
      let is = heights kind adds.edit adds.among same in
      let whats : Height adds.kind Since own ≡ Height is.kind is.reach is.own = sym adds.what ∙ is.what in
      let since : is.reach ≡ Since = cc in
      let begun : is_empty (words_at parsed adds.edit.first) ≡ false = subst (λ reach. IsBegun reach parsed adds.edit is.is.entry) since is.is.begun in
      subst (λ k. is_empty (words_at parsed k) ≡ false) adds.first begun

  lines : (kind : HeightKind) (k : ℕ) → k < length parsed → IsHeightLine edits (index_of kind) k (words_at parsed k) (words_at new k)
  lines kind k within = height_line edits k (line_at parsed k) (line_at new k) (pairs k within) kind (words_fine parsed k fine within) (added_some kind k)

  -- a sight that stays
  module _ (number s : ℕ) (within : s < length parsed) (stay : stays edits parsed s ≡ true) where
    sight : is_sight (words_at parsed s) ≡ true
    sight = (and_parts (is_sight (words_at parsed s)) (not (is_left_out (edit_on edits height_difference s))) stay).0

    kept : is_left_out (edit_on edits height_difference s) ≡ false
    kept = not-true (is_left_out (edit_on edits height_difference s)) (and_parts (is_sight (words_at parsed s)) (not (is_left_out (edit_on edits height_difference s))) stay).1

    stand : HasStanding parsed s
    stand = standing parsed s fine within sight

    setup : (from : ℕ) × (setup_of parsed s ≡ Some from)
    setup = there (setup_of parsed s) stand.setup

    new_setup : setup_of new s ≡ setup_of parsed s
    new_setup = last-same (λ k. is_setup (words_at new k)) (λ k. is_setup (words_at parsed k)) s (λ k below. setups k (omega (arith, below, within)))

    before : setup.0 < s
    before = last-lt (λ k. is_setup (words_at parsed k)) s setup.0 setup.1

    begins : is_setup (words_at parsed setup.0) ≡ true
    begins = last-true (λ k. is_setup (words_at parsed k)) s setup.0 setup.1

    in_book : setup.0 < length parsed
    in_book = omega (arith, before, within)

    -- the line that the sight's height comes from
    held : (kind : HeightKind) → is_some (last_with (index_of kind) parsed s) ≡ true
    held Reflector = stand.reflector
    held Instrument = stand.instrument

    height_same : (kind : HeightKind) → known (height_at (index_of kind) new s) ≡ edited_by (edit_on edits (index_of kind) s) (known (height_at (index_of kind) parsed s))
    height_same kind =
        let found : is_some (last_below (holds_from parsed (index_of kind) setup.0) (suc s)) ≡ true =
        sym (ap (λ setup. is_some (option_and_then (λ from. last_below (holds_from parsed (index_of kind) from) (suc s)) setup)) setup.1) ∙ held kind in
        let line = there (last_below (holds_from parsed (index_of kind) setup.0) (suc s)) found in
        height_new edits (index_of kind) parsed new apart (lines kind) (heights kind) s (record {
          within = within;
          sight = sight;
          setup = setup.0;
          line = line.0;
          runs = setup.1;
          new_runs = new_setup ∙ setup.1;
          last = line.1;
        })

    target_same : known_name (point_name (words_at new s)) ≡ renamed_by (edit_on edits point_number s) (known_name (point_name (words_at parsed s)))
    target_same =
        let words = words_fine parsed s fine within in
        let some = or_left (is_sight (words_at parsed s)) (is_setup (words_at parsed s)) sight in
        let name = named (words_at parsed s) words some in
        ap known_name (name_new edits s (line_at parsed s) (line_at new s) (pairs s within) name.0 (pointed (words_at parsed s) words some) name.1)
        ∙ sym (ap (λ found. renamed_by (edit_on edits point_number s) (known_name found)) name.1)

    station_same : known_name (station_at new s) ≡ renamed_by (station_edit edits parsed s) (known_name (station_at parsed s))
    station_same =
        let words = words_fine parsed setup.0 fine in_book in
        let some = or_right (is_sight (words_at parsed setup.0)) (is_setup (words_at parsed setup.0)) begins in
        let name = named (words_at parsed setup.0) words some in
        ap (λ from. known_name (option_and_then (λ own. point_name (words_at new own)) from)) (new_setup ∙ setup.1)
        ∙ ap known_name (name_new edits setup.0 (line_at parsed setup.0) (line_at new setup.0) (pairs setup.0 in_book) name.0 (pointed (words_at parsed setup.0) words some) name.1)
        ∙ sym (ap (λ from. renamed_by (option_and_then (edit_on edits point_number) from) (known_name (option_and_then (λ own. point_name (words_at parsed own)) from))) setup.1
        ∙ ap (λ found. renamed_by (edit_on edits point_number setup.0) (known_name found)) name.1)

    observed_same : observed_at number new s ≡ corrected_at edits number parsed s
    observed_same =
        ap (λ station. made station (known_name (point_name (words_at new s))) (known (length_in height_difference (words_at new s))) (known (height_at instrument_height new s)) (known (height_at reflector_height new s))) station_same
        ∙ ap (λ target. made station target (known (length_in height_difference (words_at new s))) (known (height_at instrument_height new s)) (known (height_at reflector_height new s))) target_same
        ∙ ap (λ sighted. made station target sighted (known (height_at instrument_height new s)) (known (height_at reflector_height new s)))
        (sighted_new edits s (line_at parsed s) (line_at new s) (pairs s within) (words_fine parsed s fine within) sight kept)
        ∙ ap (λ instrument. made station target sighted instrument (known (height_at reflector_height new s))) (height_same Instrument)
        ∙ ap (made station target sighted (corrected_height edits instrument_height parsed s)) (height_same Reflector)
      where
        made : List ℕ → List ℕ → ℤ → ℤ → ℤ → Observed
        made station target sighted instrument reflector = record { station = station; target = target; difference = sighted +ℤ instrument -ℤ reflector; book = number; line = s + 1 }

        station : List ℕ
        station = renamed_by (station_edit edits parsed s) (known_name (station_at parsed s))

        target : List ℕ
        target = renamed_by (edit_on edits point_number s) (known_name (point_name (words_at parsed s)))

        sighted : ℤ
        sighted = edited_by (edit_on edits height_difference s) (known (length_in height_difference (words_at parsed s)))

  -- all of them
  pub observations_same : (number : ℕ) → observations_of number new ≡ corrected edits number parsed
  observations_same number =
      ap (λ many. map (observed_at number new) (filter (λ place. is_sight (words_at new place)) (range_with_len 0 many))) long
      ∙ mapped_range (observed_at number new) (corrected_at edits number parsed) (λ place. is_sight (words_at new place)) (stays edits parsed) 0 (length parsed)
      (λ k within. subst (λ k. is_sight (words_at new k) ≡ stays edits parsed k) (sym (zero-add k)) (sight_stays edits k (line_at parsed k) (line_at new k) (pairs k within) (words_fine parsed k fine within)))
      (λ k within. subst (λ k. stays edits parsed k ≡ true → observed_at number new k ≡ corrected_at edits number parsed k) (sym (zero-add k)) (observed_same number k within))
