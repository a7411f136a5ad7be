-- The observations of a book of which one number changes.
use Rattle.std.proofs.Common.{◌≡◌, ℕ, ℤ, ◌+◌, ◌<◌, ◌==◌, ◌&&◌, ◌+ℤ◌, ◌-ℤ◌, ◌*ℤ◌, pos, negsuc, neg_ℤ, Bool, true, false, not, cond, List, [], ◌∷◌, Option, Some, None, length, map, refl, ap, ◌∙◌, arith}
use Rattle.std.specs.List.{filter, range_with_len}
use Rattle.std.specs.Prelude.{option_and_then}
use Rattle.std.proofs.Math.IntN.{*ℤ-negsuc, *ℤ-one, *ℤ-zero}
use Rattle.std.proofs.lemmas.Bool.{and_right}
use Rattle.std.proofs.lemmas.Int.{ints}
use Rattle.gsi_word.specs.Indexes.{height_difference, instrument_height, point_number, reflector_height}
use Rattle.th_observations.specs.Observed.{Observed}
use Rattle.th_book.specs.Books.{known, known_name, observations_of, observed_at}
use Rattle.th_book.specs.Lines.{ParsedLine, is_sight, length_in, point_name}
use Rattle.th_book.specs.Places.{height_at, setup_of, station_at, words_at}
use Rattle.th_changes.specs.Numbers.{changed_observation, share}
use Rattle.th_changes.specs.declared.numbers.Number.{Number}
use Rattle.th_changes.specs.declared.numbers.Number.TheVariants as number_of
use Rattle.th_entries.specs.Entries.{index_of}
use Rattle.th_entries.specs.declared.entries.HeightKind.{HeightKind}
use Rattle.th_entries.specs.declared.entries.HeightKind.TheVariants.{Instrument, Reflector}
use Rattle.th_mend.specs.declared.changes.Reach.{Reach}
use Rattle.th_mend.specs.declared.changes.What.TheVariants.{Height, Sighted}
use Rattle.th_mend.specs.Edits.{covers, index_changed}
use Rattle.th_mend.specs.declared.edits.Edit.{Edit}
use Rattle.th_numbers.specs.Candidates.{number_over}
use Rattle.th_reliability.specs.Sights.{in_sights}
use Rattle.th_reliability.specs.declared.sights.Sights.{Sights}
use Rattle.th_explain_laws.specs.Corrected.{corrected, corrected_at, corrected_difference, edit_on, edited, edited_by, is_left_out, leaves_out, renamed_by, station_edit, stays}
use Rattle.th_explain_laws.proofs.BookLemmas.{mapped_range}

-- two mappings, one behind the other
fused : {X Y Z : Type 0} (f : Y → Z) (g : X → Y) (items : List X) → map (λ item. f (g item)) items ≡ map f (map g items)
fused f g [] = refl
fused f g (item ∷ items) = ap (λ rest. f (g item) ∷ rest) (fused f g items)

true_right : (test : Bool) → (test && true) ≡ test
true_right true = refl
true_right false = refl

-- the edits of one edit
on_other : (edit : Edit) (index k : ℕ) → (index_changed edit.what == index) ≡ false → edit_on (edit ∷ []) index k ≡ None
on_other edit index k other = ap (λ own. cond own (Some edit) None) (and_right (covers k edit) (index_changed edit.what == index) other)

on_own : (edit : Edit) (index k : ℕ) → (index_changed edit.what == index) ≡ true → edit_on (edit ∷ []) index k ≡ cond (covers k edit) (Some edit) None
on_own edit index k same = ap (λ own. cond (covers k edit && own) (Some edit) None) same ∙ ap (λ own. cond own (Some edit) None) (true_right (covers k edit))

-- a name that does not change
station_stays : (edit : Edit) (parsed : List ParsedLine) (s : ℕ) (name : List ℕ) → (index_changed edit.what == point_number) ≡ false → renamed_by (station_edit (edit ∷ []) parsed s) name ≡ name
station_stays edit parsed s name other = by (setup_of parsed s)
  where
    by : (setup : Option ℕ) → renamed_by (option_and_then (edit_on (edit ∷ []) point_number) setup) name ≡ name
    by None = refl
    by (Some from) = ap (λ edit. renamed_by edit name) (on_other edit point_number from other)

-- the parts of a difference
abbrev sighted_of : List ParsedLine → ℕ → ℤ
sighted_of parsed s = known (length_in height_difference (words_at parsed s))

abbrev instrument_of : List ParsedLine → ℕ → ℤ
instrument_of parsed s = known (height_at instrument_height parsed s)

abbrev reflector_of : List ParsedLine → ℕ → ℤ
reflector_of parsed s = known (height_at reflector_height parsed s)

-- the difference where one part changes
abbrev parted : Option Edit → Option Edit → Option Edit → List ParsedLine → ℕ → ℤ
parted first second third parsed s = edited_by first (sighted_of parsed s) +ℤ edited_by second (instrument_of parsed s) -ℤ edited_by third (reflector_of parsed s)

three : (edits : List Edit) (parsed : List ParsedLine) (s : ℕ) (first second third : Option Edit) → edit_on edits height_difference s ≡ first → edit_on edits instrument_height s ≡ second → edit_on edits reflector_height s ≡ third
    → corrected_difference edits parsed s ≡ parted first second third parsed s
three edits parsed s first second third a b c =
    ap (λ own. parted own (edit_on edits instrument_height s) (edit_on edits reflector_height s) parsed s) a
    ∙ ap (λ own. parted first own (edit_on edits reflector_height s) parsed s) b
    ∙ ap (λ own. parted first second own parsed s) c

-- the difference grows by x for each unit of its share
abbrev Grows : Number → ℤ → ℕ → List ParsedLine → ℕ → ℤ → Type 0
Grows number x book parsed s new = new ≡ (observed_at book parsed s).difference +ℤ x *ℤ share number (observed_at book parsed s)

-- where it is not touched
still : (a x : ℤ) → a ≡ a +ℤ x *ℤ pos 0
still a x = let none = *ℤ-zero x in omega (arith, ints, none)

grown : (a b x : ℤ) → b ≡ a +ℤ x → b ≡ a +ℤ x *ℤ pos 1
grown a b x h = let one = *ℤ-one x in omega (arith, ints, one, h)

shrunk : (a b x : ℤ) → b ≡ a -ℤ x → b ≡ a +ℤ x *ℤ negsuc 0
shrunk a b x h =
    let minus : x *ℤ negsuc 0 ≡ neg_ℤ (x *ℤ pos 1) = *ℤ-negsuc x 0 in
    let one = *ℤ-one x in
    omega (arith, ints, minus, one, h)

-- a height that changes
pub height_grows : (edit : Edit) (kind : HeightKind) (reach : Reach) (own before : ℤ) (sights : Sights) (book : ℕ) (parsed : List ParsedLine) (s : ℕ) → edit.what ≡ Height kind reach own → covers s edit ≡ in_sights sights (observed_at book parsed s)
    → (covers s edit ≡ true → known (height_at (index_of kind) parsed s) ≡ before) → Grows (number_over kind sights) (own -ℤ before) book parsed s (corrected_difference (edit ∷ []) parsed s)
height_grows edit Instrument reach own before sights book parsed s is same old =
    three (edit ∷ []) parsed s None (cond (covers s edit) (Some edit) None) None
    (on_other edit height_difference s (ap (λ what. index_changed what == height_difference) is))
    (on_own edit instrument_height s (ap (λ what. index_changed what == instrument_height) is))
    (on_other edit reflector_height s (ap (λ what. index_changed what == reflector_height) is))
    ∙ ap (λ among. parted None (cond among (Some edit) None) None parsed s) same
    ∙ by (in_sights sights (observed_at book parsed s)) (λ e. old (same ∙ e))
  where
    by : (among : Bool) → (among ≡ true → instrument_of parsed s ≡ before) → parted None (cond among (Some edit) None) None parsed s ≡ (observed_at book parsed s).difference +ℤ (own -ℤ before) *ℤ cond among (pos 1) (pos 0)
    by false old = still (observed_at book parsed s).difference (own -ℤ before)
    by true old =
        ap (λ what. sighted_of parsed s +ℤ edited what (instrument_of parsed s) -ℤ reflector_of parsed s) is
        ∙ grown (sighted_of parsed s +ℤ instrument_of parsed s -ℤ reflector_of parsed s) (sighted_of parsed s +ℤ own -ℤ reflector_of parsed s) (own -ℤ before) (let was = old refl in omega (arith, ints, was))
height_grows edit Reflector reach own before sights book parsed s is same old =
    three (edit ∷ []) parsed s None None (cond (covers s edit) (Some edit) None)
    (on_other edit height_difference s (ap (λ what. index_changed what == height_difference) is))
    (on_other edit instrument_height s (ap (λ what. index_changed what == instrument_height) is))
    (on_own edit reflector_height s (ap (λ what. index_changed what == reflector_height) is))
    ∙ ap (λ among. parted None None (cond among (Some edit) None) parsed s) same
    ∙ by (in_sights sights (observed_at book parsed s)) (λ e. old (same ∙ e))
  where
    by : (among : Bool) → (among ≡ true → reflector_of parsed s ≡ before) → parted None None (cond among (Some edit) None) parsed s ≡ (observed_at book parsed s).difference +ℤ (own -ℤ before) *ℤ cond among (negsuc 0) (pos 0)
    by false old = still (observed_at book parsed s).difference (own -ℤ before)
    by true old =
        ap (λ what. sighted_of parsed s +ℤ instrument_of parsed s -ℤ edited what (reflector_of parsed s)) is
        ∙ shrunk (sighted_of parsed s +ℤ instrument_of parsed s -ℤ reflector_of parsed s) (sighted_of parsed s +ℤ instrument_of parsed s -ℤ own) (own -ℤ before) (let was = old refl in omega (arith, ints, was))

-- a word 33 that changes
pub sight_grows : (edit : Edit) (own x : ℤ) (sights : Sights) (book : ℕ) (parsed : List ParsedLine) (s : ℕ) → edit.what ≡ Sighted own → covers s edit ≡ in_sights sights (observed_at book parsed s)
    → (covers s edit ≡ true → own ≡ sighted_of parsed s +ℤ x) → Grows (number_of.Added sights) x book parsed s (corrected_difference (edit ∷ []) parsed s)
sight_grows edit own x sights book parsed s is same new =
    three (edit ∷ []) parsed s (cond (covers s edit) (Some edit) None) None None
    (on_own edit height_difference s (ap (λ what. index_changed what == height_difference) is))
    (on_other edit instrument_height s (ap (λ what. index_changed what == instrument_height) is))
    (on_other edit reflector_height s (ap (λ what. index_changed what == reflector_height) is))
    ∙ ap (λ among. parted (cond among (Some edit) None) None None parsed s) same
    ∙ by (in_sights sights (observed_at book parsed s)) (λ e. new (same ∙ e))
  where
    by : (among : Bool) → (among ≡ true → own ≡ sighted_of parsed s +ℤ x) → parted (cond among (Some edit) None) None None parsed s ≡ (observed_at book parsed s).difference +ℤ x *ℤ cond among (pos 1) (pos 0)
    by false new = still (observed_at book parsed s).difference x
    by true new =
        ap (λ what. edited what (sighted_of parsed s) +ℤ instrument_of parsed s -ℤ reflector_of parsed s) is
        ∙ grown (sighted_of parsed s +ℤ instrument_of parsed s -ℤ reflector_of parsed s) (own +ℤ instrument_of parsed s -ℤ reflector_of parsed s) x (let is_new = new refl in omega (arith, ints, is_new))

-- what one edit of a length or of a height does to all observations of its book
pub all_grow : (edit : Edit) (number : Number) (x : ℤ) (book : ℕ) (parsed : List ParsedLine) → (index_changed edit.what == point_number) ≡ false
    → ((s : ℕ) → is_left_out (edit_on (edit ∷ []) height_difference s) ≡ false)
    → ((s : ℕ) → s < length parsed → is_sight (words_at parsed s) ≡ true → Grows number x book parsed s (corrected_difference (edit ∷ []) parsed s))
    → corrected (edit ∷ []) book parsed ≡ map (changed_observation number x) (observations_of book parsed)
all_grow edit number x book parsed other kept grows =
    mapped_range (corrected_at (edit ∷ []) book parsed) (λ s. changed_observation number x (observed_at book parsed s)) (stays (edit ∷ []) parsed) (λ s. is_sight (words_at parsed s)) 0 (length parsed)
    (λ s within. ap (λ out. is_sight (words_at parsed (0 + s)) && not out) (kept (0 + s)) ∙ true_right (is_sight (words_at parsed (0 + s))))
    (λ s within sight. one (0 + s) (omega (arith, within)) sight)
    ∙ fused (changed_observation number x) (observed_at book parsed) (filter (λ s. is_sight (words_at parsed s)) (range_with_len 0 (length parsed)))
  where
    made : ℕ → List ℕ → List ℕ → ℤ → Observed
    made s station target difference = record { station = station; target = target; difference = difference; book = book; line = s + 1 }

    one : (s : ℕ) → s < length parsed → is_sight (words_at parsed s) ≡ true → corrected_at (edit ∷ []) book parsed s ≡ changed_observation number x (observed_at book parsed s)
    one s within sight =
        ap (λ station. made s station (renamed_by (edit_on (edit ∷ []) point_number s) (known_name (point_name (words_at parsed s)))) (corrected_difference (edit ∷ []) parsed s)) (station_stays edit parsed s (known_name (station_at parsed s)) other)
        ∙ ap (λ own. made s (known_name (station_at parsed s)) (renamed_by own (known_name (point_name (words_at parsed s)))) (corrected_difference (edit ∷ []) parsed s)) (on_other edit point_number s other)
        ∙ ap (made s (known_name (station_at parsed s)) (known_name (point_name (words_at parsed s)))) (grows s within sight)

-- a height leaves no sight out, and neither does another length
pub height_leaves : (edit : Edit) (kind : HeightKind) (reach : Reach) (own : ℤ) → edit.what ≡ Height kind reach own → (s : ℕ) → is_left_out (edit_on (edit ∷ []) height_difference s) ≡ false
height_leaves edit Instrument reach own is s = ap is_left_out (on_other edit height_difference s (ap (λ what. index_changed what == height_difference) is))
height_leaves edit Reflector reach own is s = ap is_left_out (on_other edit height_difference s (ap (λ what. index_changed what == height_difference) is))

pub length_leaves : (edit : Edit) (own : ℤ) → edit.what ≡ Sighted own → (s : ℕ) → is_left_out (edit_on (edit ∷ []) height_difference s) ≡ false
length_leaves edit own is s = ap is_left_out (on_own edit height_difference s (ap (λ what. index_changed what == height_difference) is)) ∙ by (covers s edit)
  where
    by : (covered : Bool) → is_left_out (cond covered (Some edit) None) ≡ false
    by true = ap leaves_out is
    by false = refl
