-- The words of a mended block have spellings in its width.
use Rattle.std.proofs.Common.{◌≡◌, ℕ, ℤ, ◌+◌, ◌-◌, ◌^◌, ◌%◌, ◌/◌, ◌<◌, ◌≤◌, ◌==◌, ◌&&◌, Bool, true, false, not, cond, List, [], ◌∷◌, ◌++◌, Option, Some, None, Result, Ok, Err, length, nat_le, nat_lt, replicate, unsigned_abs, zero, suc, refl, sym, ap, subst, ◌∙◌, arith, length-append}
use Rattle.std.specs.Int.{is_negative}
use Rattle.std.specs.List.{find, list_all}
use Rattle.std.specs.Prelude.{All, option_to_list, slice_index}
use Rattle.std.specs.Result.{result_ok}
use Rattle.std.proofs.lemmas.Bool.{and_parts}
use Rattle.std.proofs.lemmas.Bool.Decides.{nat_tests}
use Rattle.std.proofs.lemmas.List.{length-drop, length-take-le}
use Rattle.std.proofs.lemmas.List.Elements.{All-cons, All-contains, All-nil}
use Rattle.std.proofs.lemmas.Option.{none-some, same_Some}
use Rattle.th_units.proofs.Digits.{digit_bounds}
use Rattle.th_units.specs.Lengths.{is_digit}
use Rattle.th_units.specs.Metres.{last_digits}
use Rattle.th_units.specs.Units.{step, unit_of}
use Rattle.th_units.specs.declared.units.Unit.{Unit as LengthUnit}
use Rattle.th_units.specs.declared.units.Unit.TheVariants.{HundredthMm, Mm, MilliFoot, TenMilliFoot, TenthMm}
use Rattle.gsi_word.specs.Bytes.{is_data, is_info}
use Rattle.gsi_word.specs.Names.{name_of}
use Rattle.gsi_word.specs.Words.{Parts, Spells, data_len, parts, spelling_of}
use Rattle.gsi_word.specs.declared.words.Width.{Width}
use Rattle.gsi_word.specs.declared.words.Width.TheVariants.{Eight, Sixteen}
use Rattle.gsi_word.proofs.WrittenWords.{ArePlaced, Spells-spelling_of}
use Rattle.gsi_block.specs.Blocks.{BlockParts}
use Rattle.gsi_block.specs.Spelled.{AreSpelled}
use Rattle.th_book.specs.Lines.{holds}
use Rattle.th_columns.proofs.DigitLemmas.{digit_is_data, last_digits-all}
use Rattle.th_entries.specs.Entries.{index_of}
use Rattle.th_entries.specs.declared.entries.HeightKind.{HeightKind}
use Rattle.th_entries.specs.declared.entries.HeightKind.TheVariants.{Instrument, Reflector}
use Rattle.th_mend.specs.declared.changes.Reach.TheVariants.{Since, Whole}
use Rattle.th_mend.specs.declared.changes.What.{What}
use Rattle.th_mend.specs.declared.changes.What.TheVariants.{Height, LeftOut, OtherSign, Sighted, Station, Target}
use Rattle.th_mend.specs.NewWords.{added_in, added_word, in_unit, info_of, length_data, name_data, with_body, with_length, with_name, with_other_sign}
use Rattle.th_mend.specs.Inside.Bodies.{IsBody}
use Rattle.th_mend.specs.declared.misfits.Misfit.{Misfit}
use Rattle.th_mend.specs.declared.misfits.Misfit.TheVariants.{LongName, NotWhole, TooManyDigits}
use Rattle.th_mend.proofs.BodyLemmas.{length-digits, name_body}
use Rattle.th_mend.specs.Edits.{covers}
use Rattle.th_mend.specs.MendedLines.{NewWords, added_by, added_words, changed, is_name, is_of_word, later_words, made, mended_words, name_edit, or_else, own_words, word_edit}
use Rattle.th_mend.specs.declared.edits.Edit.{Edit}
use Rattle.th_explain_laws.proofs.EditLemmas.{IsReadable, found_among}
use Rattle.th_explain_laws.proofs.WordLemmas.{AreBoth, IsOne, become, become_by, both_parts, made_one, mapped, one_changed}

-- what is spelled is placed
placed : (word : Parts) (width : Width) → Spells word (spelling_of word) width → ArePlaced word width
placed word width is = record {
  index = omega (arith, digit_bounds (48 + word.index / 10) (and_parts (is_digit (48 + word.index / 10)) (is_digit (48 + word.index % 10) && true) is.index_digits).0);
  info_length = ap length is.info ∙ length-take-le 4 rest (omega (arith, is.length));
  info = is.info_bytes;
  body_length = ap length is.body ∙ length-drop 7 (spelling_of word) ∙ omega (arith, is.length);
  body = is.body_bytes;
}
  where
    rest : List ℕ
    rest = word.info ++ cond word.negative 45 43 ∷ word.body

-- the data of a length
length_body : (digits : ℕ) (own : ℤ) (unit : LengthUnit) (body : List ℕ) → length_data digits own unit ≡ Ok body → (length body ≡ digits) × (list_all is_data body ≡ true)
length_body digits own unit body h = by (unsigned_abs own % step unit == 0) (nat_le (10 ^ digits) (unsigned_abs own / step unit)) h
  where
    number : ℕ
    number = unsigned_abs own / step unit

    by : (whole long : Bool) → ◌≡◌ {A = Result (List ℕ) Misfit} (cond (not whole) (Err NotWhole) (cond long (Err TooManyDigits) (Ok (last_digits digits number)))) (Ok body) → (length body ≡ digits) × (list_all is_data body ≡ true)
    by false long h = absurd (cc h)
    by true true h = absurd (cc h)
    by true false h =
        let same : last_digits digits number ≡ body = cc h in
        (sym (ap length same) ∙ length-digits digits number, sym (ap (list_all is_data) same) ∙ last_digits-all is_data digit_is_data digits number)

zeros_long : (count : ℕ) → length {A = ℕ} (replicate count 48) ≡ count
zeros_long zero = refl
zeros_long (suc count) = omega (arith, zeros_long count)

name_long : (bytes : ℕ) (name body : List ℕ) → name_data bytes name ≡ Ok body → length body ≡ bytes
name_long bytes name body h = by (nat_lt bytes (length name)) refl h
  where
    by : (long : Bool) → nat_lt bytes (length name) ≡ long → ◌≡◌ {A = Result (List ℕ) Misfit} (cond long (Err LongName) (Ok (replicate (bytes - length name) 48 ++ name))) (Ok body) → length body ≡ bytes
    by true e h = absurd (cc h)
    by false e h =
        let same : replicate (bytes - length name) 48 ++ name ≡ body = cc h in
        let short : length name ≤ bytes = grind (arith, nat_tests) in
        sym (ap length same) ∙ omega (arith, length-append (replicate (bytes - length name) 48) name, zeros_long (bytes - length name), short)

-- a word with other data
other_body : (word own : Parts) (width : Width) (negative : Bool) (body : List ℕ) → ArePlaced word width → own ≡ parts word.index word.info negative body → length body ≡ data_len width → list_all is_data body ≡ true → ArePlaced own width
other_body word own width negative body is same long all =
    subst (λ own. ArePlaced own width) (sym same) (record { index = is.index; info_length = is.info_length; info = is.info; body_length = long; body = all })

with_length_placed : (word own : Parts) (width : Width) (new : ℤ) → ArePlaced word width → result_ok (with_length new word) ≡ Some own → ArePlaced own width
with_length_placed word own width new is h = by (unit_of (slice_index word.info 3)) h
  where
    by : (unit : Option LengthUnit) → result_ok (in_unit new word unit) ≡ Some own → ArePlaced own width
    by None h = absurd (none-some own h)
    by (Some unit) h =
        let found = mapped (with_body word new) (length_data (length word.body) new unit) own h in
        let bytes = length_body (length word.body) new unit found.0 found.1 in
        other_body word own width (is_negative new) found.0 is found.2 (bytes.0 ∙ is.body_length) bytes.1

with_name_placed : (word own : Parts) (width : Width) (name : List ℕ) → name_of name ≡ Some name → ArePlaced word width → result_ok (with_name name word) ≡ Some own → ArePlaced own width
with_name_placed word own width name readable is h =
    let found = mapped (parts word.index word.info word.negative) (name_data (length word.body) name) own h in
    let bytes : IsBody found.0 = name_body width name found.0 readable (ap (λ many. name_data many name) (sym is.body_length) ∙ found.1) in
    other_body word own width word.negative found.0 is found.2 (name_long (length word.body) name found.0 found.1 ∙ is.body_length) bytes.printable

become_placed : (what : What) (word own : Parts) (width : Width) → IsReadable what → ArePlaced word width → become what word ≡ Some own → ArePlaced own width
become_placed (Height kind reach new) word own width readable is h = with_length_placed word own width new is h
become_placed (Sighted new) word own width readable is h = with_length_placed word own width new is h
become_placed LeftOut word own width readable is h = absurd (none-some own h)
become_placed OtherSign word own width readable is h = other_body word own width (not word.negative) word.body is (sym (same_Some (with_other_sign word) own h)) is.body_length is.body
become_placed (Target name) word own width readable is h = with_name_placed word own width name readable is h
become_placed (Station name) word own width readable is h = with_name_placed word own width name readable is h

-- an edit that can be read, if there is one
abbrev ByReadable : Option Edit → Type 0
ByReadable None = Prim.Unit {0}
ByReadable (Some edit) = IsReadable edit.what

become_by_placed : (edit : Option Edit) (word own : Parts) (width : Width) → ByReadable edit → ArePlaced word width → become_by edit word ≡ Some own → ArePlaced own width
become_by_placed None word own width readable is h = subst (λ own. ArePlaced own width) (same_Some word own h) is
become_by_placed (Some edit) word own width readable is h = become_placed edit.what word own width readable is h

-- words before others
spelled_both : (width : Width) (front back : List Parts) → AreSpelled width front → AreSpelled width back → AreSpelled width (front ++ back)
spelled_both width [] back a b = b
spelled_both width (word ∷ front) back a b = (a.0, spelled_both width front back a.1 b)

changed_spelled : (edit : Option Edit) (word : Parts) (own : List Parts) (width : Width) → ByReadable edit → Spells word (spelling_of word) width → changed edit word ≡ Ok own → AreSpelled width own
changed_spelled edit word own width readable is h = by (become_by edit word) refl
  where
    one : IsOne edit word own
    one = one_changed edit word own h

    by : (new : Option Parts) → become_by edit word ≡ new → AreSpelled width own
    by None e = subst (AreSpelled width) (sym (one.is ∙ ap option_to_list e)) tt
    by (Some new) e = subst (AreSpelled width) (sym (one.is ∙ ap option_to_list e)) (Spells-spelling_of new width (become_by_placed edit word new width readable (placed word width is) e), tt)

module _ (edits : List Edit) (place : ℕ) (readable : All (λ (edit : Edit). IsReadable edit.what) edits) where
  -- an edit that was found can be read
  found_readable : (test : Edit → Bool) (edit : Option Edit) → find test edits ≡ edit → ByReadable edit
  found_readable test None is = tt
  found_readable test (Some edit) is = All-contains (λ (edit : Edit). IsReadable edit.what) edits edit readable (found_among test edits edit is).0

  word_readable : (word : Parts) → ByReadable (word_edit edits place word)
  word_readable word = found_readable (λ (edit : Edit). covers place edit && is_of_word word edit.what) (word_edit edits place word) refl

  first_readable : (word : Parts) → ByReadable (or_else (name_edit edits place) (word_edit edits place word))
  first_readable word = by (name_edit edits place) (found_readable (λ (edit : Edit). covers place edit && is_name edit.what) (name_edit edits place) refl)
    where
      by : (name : Option Edit) → ByReadable name → ByReadable (or_else name (word_edit edits place word))
      by None none = word_readable word
      by (Some edit) is = is

  later_spelled : (width : Width) (words own : List Parts) → AreSpelled width words → later_words edits place words ≡ Ok own → AreSpelled width own
  later_spelled width [] own are h = let none : [] ≡ own = cc h in subst (AreSpelled width) none tt
  later_spelled width (word ∷ words) own are h =
      let both = both_parts (changed (word_edit edits place word) word) (later_words edits place words) own h in
      subst (AreSpelled width) (sym both.both) (spelled_both width both.front both.back (changed_spelled (word_edit edits place word) word both.front width (word_readable word) are.0 both.first_is) (later_spelled width words both.back are.1 both.later_is))

  own_spelled : (width : Width) (words own : List Parts) → AreSpelled width words → own_words edits place words ≡ Ok own → AreSpelled width own
  own_spelled width [] own are h = let none : [] ≡ own = cc h in subst (AreSpelled width) none tt
  own_spelled width (word ∷ words) own are h =
      let edit = or_else (name_edit edits place) (word_edit edits place word) in
      let both = both_parts (changed edit word) (later_words edits place words) own h in
      subst (AreSpelled width) (sym both.both) (spelled_both width both.front both.back (changed_spelled edit word both.front width (first_readable word) are.0 both.first_is) (later_spelled width words both.back are.1 both.later_is))

-- an added word is spelled in its width
info_allowed : (unit : LengthUnit) → (length (info_of unit) ≡ 4) × (list_all is_info (info_of unit) ≡ true)
info_allowed TenMilliFoot = (refl, refl)
info_allowed HundredthMm = (refl, refl)
info_allowed Mm = (refl, refl)
info_allowed MilliFoot = (refl, refl)
info_allowed TenthMm = (refl, refl)

kind_small : (kind : HeightKind) → index_of kind < 100
kind_small Reflector = omega arith
kind_small Instrument = omega arith

added_spelled : (width : Width) (kind : HeightKind) (new : ℤ) (word : Parts) → added_word width (index_of kind) new ≡ Ok word → Spells word (spelling_of word) width
added_spelled width kind new word h = by (cond (unsigned_abs new % step HundredthMm == 0) HundredthMm TenMilliFoot) h
  where
    by : (unit : LengthUnit) → added_in width (index_of kind) new unit ≡ Ok word → Spells word (spelling_of word) width
    by unit h =
        let found = mapped (parts (index_of kind) (info_of unit) (is_negative new)) (length_data (data_len width) new unit) word (ap result_ok h) in
        let bytes = length_body (data_len width) new unit found.0 found.1 in
        let allowed = info_allowed unit in
        Spells-spelling_of word width (subst (λ own. ArePlaced own width) (sym found.2) (record { index = kind_small kind; info_length = allowed.0; info = allowed.1; body_length = bytes.0; body = bytes.1 }))

added_words_spelled : (edits : List Edit) (place : ℕ) (block : BlockParts) (own : List Parts) → added_words edits place block ≡ Ok own → AreSpelled block.width own
added_words_spelled [] place block own h = let none : [] ≡ own = cc h in subst (AreSpelled block.width) none tt
added_words_spelled (edit ∷ edits) place block own h =
    subst (AreSpelled block.width) (sym both.both) (spelled_both block.width both.front both.back (by edit.what both.first_is) (added_words_spelled edits place block both.back both.later_is))
  where
    both : AreBoth (added_by edit edit.what place block) (added_words edits place block) own
    both = both_parts (added_by edit edit.what place block) (added_words edits place block) own h

    none : ◌≡◌ {A = NewWords} (Ok []) (Ok both.front) → AreSpelled block.width both.front
    none h = let same : [] ≡ both.front = cc h in subst (AreSpelled block.width) same tt

    new : (kind : HeightKind) (length : ℤ) (adds : Bool) → cond adds (made edit.row (added_word block.width (index_of kind) length)) (Ok []) ≡ Ok both.front → AreSpelled block.width both.front
    new kind length false h = none h
    new kind length true h =
        let one = made_one edit.row (added_word block.width (index_of kind) length) both.front h in
        subst (AreSpelled block.width) (sym one.2) (added_spelled block.width kind length one.0 one.1, tt)

    by : (what : What) → added_by edit what place block ≡ Ok both.front → AreSpelled block.width both.front
    by (Height kind Since length) h = new kind length ((edit.first == place) && not (holds (index_of kind) block.words)) h
    by (Height kind Whole length) h = none h
    by (Sighted length) h = none h
    by LeftOut h = none h
    by OtherSign h = none h
    by (Target name) h = none h
    by (Station name) h = none h

-- so are all words of a mended block
pub mended_spelled : (edits : List Edit) (place : ℕ) (block : BlockParts) (own : List Parts) → All (λ (edit : Edit). IsReadable edit.what) edits → AreSpelled block.width block.words → mended_words edits place block ≡ Ok own → AreSpelled block.width own
mended_spelled edits place block own readable are h =
    let both = both_parts (own_words edits place block.words) (added_words edits place block) own h in
    subst (AreSpelled block.width) (sym both.both) (spelled_both block.width both.front both.back (own_spelled edits place readable block.width block.words both.front are both.first_is) (added_words_spelled edits place block both.back both.later_is))

-- words that are spelled have data
pub spelled_long : (width : Width) (words : List Parts) → AreSpelled width words → All (λ (word : Parts). 0 < length word.body) words
spelled_long width [] are = All-nil (λ (word : Parts). 0 < length word.body)
spelled_long width (word ∷ words) are = All-cons (λ (word : Parts). 0 < length word.body) word words (by width (placed word width are.0).body_length) (spelled_long width words are.1)
  where
    by : (width : Width) → length word.body ≡ data_len width → 0 < length word.body
    by Eight e = omega (arith, e)
    by Sixteen e = omega (arith, e)
