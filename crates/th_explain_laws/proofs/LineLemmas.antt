-- What the words of a mended block are, index by index.
use Rattle.std.proofs.Common.{◌≡◌, ℕ, ℤ, ◌*◌, ◌<◌, ◌==◌, ◌&&◌, ◌||◌, ◌⊎◌, inl, inr, Bool, true, false, not, cond, List, [], ◌∷◌, ◌++◌, Option, Some, None, Result, Ok, Err, length, refl, sym, ap, subst, ◌∙◌}
use Rattle.std.specs.List.{find}
use Rattle.std.specs.Option.{option_or}
use Rattle.std.specs.Prelude.{All, Contains, is_some, nat_le, neg_ℤ, option_and_then, pos, slice_index}
use Rattle.std.specs.Result.{result_map_both, result_ok}
use Rattle.std.proofs.Math.IntN.{neg_ℤ-neg_ℤ}
use Rattle.std.proofs.lemmas.Bool.{and_parts, and_right, eqb-true, or_left, true≢false}
use Rattle.std.proofs.lemmas.List.Elements.{All-contains}
use Rattle.std.proofs.lemmas.List.Folds.{find-append}
use Rattle.std.proofs.lemmas.Option.{none-some, same_Some}
use Rattle.th_units.specs.Lengths.{are_digits, number, signed}
use Rattle.th_units.specs.Limits.{max_len}
use Rattle.th_units.specs.Units.{step, unit_of}
use Rattle.th_units.specs.declared.faults.LenFault.TheVariants as len_fault
use Rattle.th_units.specs.declared.units.Unit.{Unit as LengthUnit}
use Rattle.gsi_word.specs.Indexes.{height_difference, instrument_height, point_number, reflector_height}
use Rattle.gsi_word.specs.Values.{in_unit, length_fault, length_of}
use Rattle.gsi_word.specs.Words.{Parts}
use Rattle.gsi_word.specs.declared.faults.LengthFault.TheVariants.{BadNumber}
use Rattle.gsi_block.specs.Blocks.{BlockParts}
use Rattle.th_book.specs.Faults.{begins_with_point}
use Rattle.th_book.specs.Lines.{counts_for, holds, length_in}
use Rattle.th_entries.specs.Entries.{index_of}
use Rattle.th_entries.specs.declared.entries.HeightKind.{HeightKind}
use Rattle.th_entries.specs.declared.entries.HeightKind.TheVariants.{Instrument, Reflector}
use Rattle.th_mend.specs.declared.changes.Reach.TheVariants.{Since, Whole}
use Rattle.th_mend.specs.declared.changes.What.{What}
use Rattle.th_mend.specs.declared.changes.What.TheVariants.{Height, LeftOut, OtherSign, Sighted, Station, Target}
use Rattle.th_mend.specs.NewWords.{with_length, with_other_sign}
use Rattle.th_mend.specs.declared.misfits.Misfit.{Misfit}
use Rattle.th_mend.proofs.LengthLemmas.{with_length_read}
use Rattle.th_mend.specs.Edits.{covers, index_changed}
use Rattle.th_mend.specs.MendedLines.{added_words, is_name, mended_words, name_edit, own_words}
use Rattle.th_mend.specs.declared.edits.Edit.{Edit}
use Rattle.th_explain_laws.specs.Corrected.{edit_on, edited, edited_by, is_left_out, leaves_out}
use Rattle.th_explain_laws.proofs.AddedLemmas.{IsAdded, added_found, adding_by, first_adding}
use Rattle.th_explain_laws.proofs.EditLemmas.{IsReadable, found_among}
use Rattle.th_explain_laws.proofs.WordLemmas.{IsFound, IsPointed, become, become_by, left_none, both_parts, holds-find, own_found}

-- what is known of the edits of a line with these words
pub record IsFit (edits : List Edit) (place : ℕ) (words : List Parts) : Type 0 where
  pub readable : All (λ (edit : Edit). IsReadable edit.what) edits
  pub pointed : (edit : Edit) → Contains edits edit → covers place edit ≡ true → (is_name edit.what || leaves_out edit.what) ≡ true → begins_with_point words ≡ true
  pub long : All (λ (word : Parts). 0 < length word.body) words

-- an edit of an index, if there is one
abbrev pub OfIndex : ℕ → Option Edit → Type 0
OfIndex index None = Unit {0}
OfIndex index (Some edit) = IsReadable edit.what × ((index_changed edit.what == index) ≡ true)

pub of_index : (edits : List Edit) (place index : ℕ) → All (λ (edit : Edit). IsReadable edit.what) edits → OfIndex index (edit_on edits index place)
of_index edits place index readable = by (edit_on edits index place) refl
  where
    test : Edit → Bool
    test edit = covers place edit && (index_changed edit.what == index)

    by : (edit : Option Edit) → edit_on edits index place ≡ edit → OfIndex index edit
    by None is = tt
    by (Some edit) is =
        let found = found_among test edits edit is in
        (All-contains (λ (edit : Edit). IsReadable edit.what) edits edit readable found.0, (and_parts (covers place edit) (index_changed edit.what == index) found.1).1)

pub ok_back : (found : Result Parts Misfit) (own : Parts) → result_ok found ≡ Some own → found ≡ Ok own
ok_back (Ok word) own h = ap Ok (same_Some word own h)
ok_back (Err fault) own h = absurd (none-some own h)

-- the other sign of a length
sign_back : (negative : Bool) (size : ℕ) → signed (not negative) size ≡ neg_ℤ (signed negative size)
sign_back true size = sym (neg_ℤ-neg_ℤ (pos size))
sign_back false size = refl

other_sign_read : (word : Parts) (before : ℤ) → length_of word ≡ Ok before → length_of (with_other_sign word) ≡ Ok (neg_ℤ before)
other_sign_read word before h = by (are_digits word.body) (unit_of (slice_index word.info 3)) h
  where
    size : LengthUnit → ℕ
    size unit = number word.body * step unit

    from : (unit : LengthUnit) (digits small : Bool)
        → result_map_both (λ (length : ℤ). length) length_fault (cond digits (cond small (Ok (signed word.negative (size unit))) (Err len_fault.TooLarge)) (Err len_fault.NotDigits)) ≡ Ok before
        → result_map_both (λ (length : ℤ). length) length_fault (cond digits (cond small (Ok (signed (not word.negative) (size unit))) (Err len_fault.TooLarge)) (Err len_fault.NotDigits)) ≡ Ok (neg_ℤ before)
    from unit true true h =
        let same : signed word.negative (size unit) ≡ before = cc h in
        ap Ok (sign_back word.negative (size unit) ∙ ap neg_ℤ same)
    from unit true false h = absurd (cc h)
    from unit false small h = absurd (cc h)

    by : (digits : Bool) (unit : Option LengthUnit) → cond (not digits) (Err BadNumber) (in_unit word unit) ≡ Ok before → cond (not digits) (Err BadNumber) (in_unit (with_other_sign word) unit) ≡ Ok (neg_ℤ before)
    by false unit h = absurd (cc h)
    by true None h = absurd (cc h)
    by true (Some unit) h = from unit (are_digits word.body) (nat_le (size unit) max_len) h

-- what becomes of a length
become_length : (index : ℕ) (edit : Option Edit) (word own : Parts) (before : ℤ) → (point_number == index) ≡ false → OfIndex index edit → 0 < length word.body → length_of word ≡ Ok before → become_by edit word ≡ Some own
    → length_of own ≡ Ok (edited_by edit before)
become_length index None word own before other of some reads h = let same : word ≡ own = same_Some word own h in ap length_of (sym same) ∙ reads
become_length index (Some edit) word own before other of some reads h = by edit.what of h
  where
    by : (what : What) → IsReadable what × ((index_changed what == index) ≡ true) → become what word ≡ Some own → length_of own ≡ Ok (edited what before)
    by (Height kind reach length) (small, e) h = with_length_read length word own some small (ok_back (with_length length word) own h)
    by (Sighted length) (small, e) h = with_length_read length word own some small (ok_back (with_length length word) own h)
    by LeftOut of h = absurd (none-some own h)
    by OtherSign of h = ap length_of (sym (same_Some (with_other_sign word) own h)) ∙ other_sign_read word before reads
    by (Target name) (small, e) h = absurd (true≢false (sym e ∙ other))
    by (Station name) (small, e) h = absurd (true≢false (sym e ∙ other))

-- the length of the first word that counts
pub read_first : (index : ℕ) (words : List Parts) (before : ℤ) → length_in index words ≡ Some before → (word : Parts) × (find (counts_for index) words ≡ Some word) × (length_of word ≡ Ok before)
read_first index words before h = by (find (counts_for index) words) refl h
  where
    from : (word : Parts) (found : Result ℤ _) → length_of word ≡ found → result_ok found ≡ Some before → length_of word ≡ Ok before
    from word (Ok length) is h = is ∙ ap Ok (same_Some length before h)
    from word (Err fault) is h = absurd (none-some before h)

    by : (found : Option Parts) → find (counts_for index) words ≡ found → option_and_then (λ (word : Parts). result_ok (length_of word)) found ≡ Some before → (word : Parts) × (find (counts_for index) words ≡ Some word) × (length_of word ≡ Ok before)
    by None is h = absurd (none-some before h)
    by (Some word) is h = (word, is, from word (length_of word) refl h)

-- words hold a length
pub record HasLength (index : ℕ) (words : List Parts) (own : ℤ) : Type 0 where
  pub holds : holds index words ≡ true
  pub length : length_in index words ≡ Some own

has_length : (index : ℕ) (words : List Parts) (word : Parts) (own : ℤ) → find (counts_for index) words ≡ Some word → length_of word ≡ Ok own → HasLength index words own
has_length index words word own is reads = record {
  holds = holds-find index words ∙ ap is_some is;
  length = ap (option_and_then (λ (word : Parts). result_ok (length_of word))) is ∙ ap result_ok reads;
}

lacks_word : (index : ℕ) (words : List Parts) → holds index words ≡ false → find (counts_for index) words ≡ None
lacks_word index words h = by (find (counts_for index) words) (sym (holds-find index words) ∙ h)
  where
    by : (found : Option Parts) → is_some found ≡ false → found ≡ None
    by None none = refl
    by (Some word) none = absurd (true≢false none)

lacking : (index : ℕ) (words : List Parts) → find (counts_for index) words ≡ None → holds index words ≡ false
lacking index words is = holds-find index words ∙ ap is_some is

no_option : {X : Type 0} (found : Option X) → option_or found None ≡ found
no_option None = refl
no_option (Some x) = refl

same_option : (found : Option Parts) → option_and_then (become_by None) found ≡ found
same_option None = refl
same_option (Some word) = refl

-- the first word is a point number if an edit of a name reaches the line
pointed_words : (edits : List Edit) (place : ℕ) (words : List Parts) → IsFit edits place words → IsPointed edits place words
pointed_words edits place [] fit = tt
pointed_words edits place (word ∷ words) fit = by (name_edit edits place) refl
  where
    by : (edit : Option Edit) → name_edit edits place ≡ edit → (name_edit edits place ≡ None) ⊎ (word.index ≡ point_number)
    by None is = inl is
    by (Some edit) is =
        let found = found_among (λ (edit : Edit). covers place edit && is_name edit.what) edits edit is in
        let both = and_parts (covers place edit) (is_name edit.what) found.1 in
        inr (eqb-true word.index point_number (fit.pointed edit found.0 both.0 (or_left (is_name edit.what) (leaves_out edit.what) both.1)))

-- the words of a mended block, by their parts
record AreParted (edits : List Edit) (place : ℕ) (block : BlockParts) (own : List Parts) : Type 0 where
  pub front : List Parts
  pub back : List Parts
  pub own_is : own_words edits place block.words ≡ Ok front
  pub added_is : added_words edits place block ≡ Ok back
  pub both : own ≡ front ++ back

parted : (edits : List Edit) (place : ℕ) (block : BlockParts) (own : List Parts) → mended_words edits place block ≡ Ok own → AreParted edits place block own
parted edits place block own h =
    let both = both_parts (own_words edits place block.words) (added_words edits place block) own h in
    record { front = both.front; back = both.back; own_is = both.first_is; added_is = both.later_is; both = both.both }

-- nothing is added for an index that is no height's
none_added : (index place : ℕ) (edits : List Edit) → ((kind : HeightKind) → (index_of kind == index) ≡ false) → first_adding index place edits ≡ None
none_added index place [] never = refl
none_added index place (edit ∷ edits) never = ap (λ own. option_or own (first_adding index place edits)) (by edit.what) ∙ none_added index place edits never
  where
    by : (what : What) → adding_by index place edit what ≡ None
    by (Height kind Since own) = ap (λ own_index. cond own_index (Some own) None) (and_right (edit.first == place) (index_of kind == index) (never kind))
    by (Height kind Whole own) = refl
    by (Sighted own) = refl
    by LeftOut = refl
    by OtherSign = refl
    by (Target name) = refl
    by (Station name) = refl

not_sighted : (kind : HeightKind) → (index_of kind == height_difference) ≡ false
not_sighted Reflector = refl
not_sighted Instrument = refl

all_out : (edit : Option Edit) (found : Option Parts) → is_left_out edit ≡ true → option_and_then (become_by edit) found ≡ None
all_out edit None out = refl
all_out edit (Some word) out = left_none edit word out

-- an index that nothing changes
pub record IsCoordinate (index : ℕ) : Type 0 where
  pub point : (point_number == index) ≡ false
  pub sighted : (height_difference == index) ≡ false
  pub reflector : (reflector_height == index) ≡ false
  pub instrument : (instrument_height == index) ≡ false

coordinate_kind : (index : ℕ) → IsCoordinate index → (kind : HeightKind) → (index_of kind == index) ≡ false
coordinate_kind index is Reflector = is.reflector
coordinate_kind index is Instrument = is.instrument

none_on : (edits : List Edit) (place index : ℕ) → IsCoordinate index → edit_on edits index place ≡ None
none_on [] place index is = refl
none_on (edit ∷ edits) place index is =
    ap (λ own. cond own (Some edit) (edit_on edits index place)) (and_right (covers place edit) (index_changed edit.what == index) (by edit.what)) ∙ none_on edits place index is
  where
    by : (what : What) → (index_changed what == index) ≡ false
    by (Height kind reach own) = coordinate_kind index is kind
    by (Sighted own) = is.sighted
    by LeftOut = is.sighted
    by OtherSign = is.sighted
    by (Target name) = is.point
    by (Station name) = is.point

module _ (edits : List Edit) (place : ℕ) (block : BlockParts) (own : List Parts) (fit : IsFit edits place block.words) (made : mended_words edits place block ≡ Ok own) where
  parts : AreParted edits place block own
  parts = parted edits place block own made

  front_found : (index : ℕ) → (point_number == index) ≡ false → IsFound (edit_on edits index place) (find (counts_for index) block.words) (find (counts_for index) parts.front)
  front_found index other = own_found edits place index block.words parts.front other (pointed_words edits place block.words fit) parts.own_is

  all_found : (index : ℕ) → find (counts_for index) own ≡ option_or (find (counts_for index) parts.front) (find (counts_for index) parts.back)
  all_found index = ap (find (counts_for index)) parts.both ∙ find-append (counts_for index) parts.front parts.back

  -- a length that is held stays, as its edit changes it
  pub length_kept : (index : ℕ) (before : ℤ) → (point_number == index) ≡ false → is_left_out (edit_on edits index place) ≡ false → length_in index block.words ≡ Some before → HasLength index own (edited_by (edit_on edits index place) before)
  length_kept index before other stays h = by (become_by on first.0) refl
    where
      on : Option Edit
      on = edit_on edits index place

      first : (word : Parts) × (find (counts_for index) block.words ≡ Some word) × (length_of word ≡ Ok before)
      first = read_first index block.words before h

      some : 0 < length first.0.body
      some = All-contains (λ (word : Parts). 0 < length word.body) block.words first.0 fit.long (found_among (counts_for index) block.words first.0 first.1).0

      by : (new : Option Parts) → become_by on first.0 ≡ new → HasLength index own (edited_by on before)
      by None is = absurd (true≢false (sym ((front_found index other).left first.0 first.1 is) ∙ stays))
      by (Some word) is =
          let found : find (counts_for index) parts.front ≡ Some word = (front_found index other).is ∙ ap (option_and_then (become_by on)) first.1 ∙ is in
          has_length index own word (edited_by on before)
          (all_found index ∙ ap (λ own. option_or own (find (counts_for index) parts.back)) found)
          (become_length index on first.0 word before other (of_index edits place index fit.readable) some first.2 is)

  -- what is found where nothing stays of the block's own words
  gone : (index : ℕ) → find (counts_for index) parts.front ≡ None → find (counts_for index) own ≡ find (counts_for index) parts.back
  gone index none = all_found index ∙ ap (λ own. option_or own (find (counts_for index) parts.back)) none

  front_none : (index : ℕ) → (point_number == index) ≡ false → holds index block.words ≡ false → find (counts_for index) parts.front ≡ None
  front_none index other lacks = (front_found index other).is ∙ ap (option_and_then (become_by (edit_on edits index place))) (lacks_word index block.words lacks)

  added_for : (index : ℕ) → ((kind : HeightKind) → (index_of kind == index) ≡ true → holds index block.words ≡ false) → IsAdded index (first_adding index place edits) parts.back
  added_for index lacks = added_found index place block edits parts.back lacks fit.readable parts.added_is

  -- a length that is not held is added, or not
  pub length_added : (index : ℕ) (length : ℤ) → (point_number == index) ≡ false → holds index block.words ≡ false → first_adding index place edits ≡ Some length → HasLength index own length
  length_added index length other lacks first =
      let word = subst (λ found. IsAdded index found parts.back) first (added_for index (λ kind e. lacks)) in
      has_length index own word.0 length (gone index (front_none index other lacks) ∙ word.1) word.2

  pub length_none : (index : ℕ) → (point_number == index) ≡ false → holds index block.words ≡ false → first_adding index place edits ≡ None → holds index own ≡ false
  length_none index other lacks first =
      lacking index own (gone index (front_none index other lacks) ∙ subst (λ found. IsAdded index found parts.back) first (added_for index (λ kind e. lacks)))

  -- an index that nothing adds
  unadded : (index : ℕ) → ((kind : HeightKind) → (index_of kind == index) ≡ false) → find (counts_for index) parts.back ≡ None
  unadded index never =
      subst (λ found. IsAdded index found parts.back) (none_added index place edits never) (added_for index (λ kind e. absurd (true≢false (sym e ∙ never kind))))

  -- a word 33 that is left out is gone, and none comes where there was none
  pub sight_gone : is_left_out (edit_on edits height_difference place) ≡ true → holds height_difference own ≡ false
  sight_gone out =
      let none : find (counts_for height_difference) parts.front ≡ None = (front_found height_difference refl).is ∙ all_out (edit_on edits height_difference place) (find (counts_for height_difference) block.words) out in
      lacking height_difference own (gone height_difference none ∙ unadded height_difference not_sighted)

  pub sight_none : holds height_difference block.words ≡ false → holds height_difference own ≡ false
  sight_none lacks = lacking height_difference own (gone height_difference (front_none height_difference refl lacks) ∙ unadded height_difference not_sighted)

  -- a coordinate stays
  pub coordinate_stays : (index : ℕ) → IsCoordinate index → holds index own ≡ holds index block.words
  coordinate_stays index is =
      let front : find (counts_for index) parts.front ≡ find (counts_for index) block.words =
      (front_found index is.point).is ∙ ap (λ edit. option_and_then (become_by edit) (find (counts_for index) block.words)) (none_on edits place index is) ∙ same_option (find (counts_for index) block.words) in
      holds-find index own
      ∙ ap is_some (all_found index ∙ ap (option_or (find (counts_for index) parts.front)) (unadded index (coordinate_kind index is)) ∙ no_option (find (counts_for index) parts.front) ∙ front)
      ∙ sym (holds-find index block.words)
