-- The first word of a mended block: it stays the first, and has the name that it gets.
use Rattle.std.proofs.Common.{◌≡◌, ℕ, ◌==◌, ◌&&◌, Bool, true, false, cond, List, [], ◌∷◌, ◌++◌, Option, Some, None, Ok, length, refl, sym, ap, subst, ◌∙◌}
use Rattle.std.specs.List.{find}
use Rattle.std.specs.Prelude.{option_to_list}
use Rattle.std.proofs.lemmas.Bool.{and_parts, and_right, eqb-true, false≢true, or_right, true≢false}
use Rattle.std.proofs.lemmas.Option.{same_Some}
use Rattle.gsi_word.specs.Indexes.{point_number}
use Rattle.gsi_word.specs.Names.{name_of}
use Rattle.gsi_word.specs.Words.{Parts}
use Rattle.gsi_block.specs.Blocks.{BlockParts}
use Rattle.th_book.specs.Faults.{begins_with_point}
use Rattle.th_book.specs.Lines.{point_name}
use Rattle.th_entries.specs.declared.entries.HeightKind.TheVariants.{Instrument, Reflector}
use Rattle.th_mend.specs.declared.changes.What.{What}
use Rattle.th_mend.specs.declared.changes.What.TheVariants.{Height, LeftOut, OtherSign, Sighted, Station, Target}
use Rattle.th_mend.specs.NewWords.{with_name}
use Rattle.th_mend.proofs.NameLemmas.{with_name_named}
use Rattle.th_mend.specs.Edits.{covers, index_changed}
use Rattle.th_mend.specs.MendedLines.{added_words, changed, is_name, is_of_word, later_words, mended_words, name_edit, or_else, own_words, word_edit}
use Rattle.th_mend.specs.declared.edits.Edit.{Edit}
use Rattle.th_explain_laws.specs.Corrected.{edit_on, is_left_out, leaves_out, renamed, renamed_by}
use Rattle.th_explain_laws.proofs.EditLemmas.{IsReadable, found_among}
use Rattle.th_explain_laws.proofs.LineLemmas.{IsFit, OfIndex, of_index, ok_back}
use Rattle.th_explain_laws.proofs.WordLemmas.{AreBoth, IsOne, become, become_by, both_parts, find_same, one_changed, point_counts}

-- the edit of the first word
abbrev pub first_edit : List Edit → ℕ → Parts → Option Edit
first_edit edits place word = or_else (name_edit edits place) (word_edit edits place word)

names_stay : (what : What) → is_name what ≡ true → leaves_out what ≡ false
names_stay (Target name) is = refl
names_stay (Station name) is = refl
names_stay (Height kind reach own) is = refl
names_stay (Sighted own) is = refl
names_stay OtherSign is = refl
names_stay LeftOut is = absurd (false≢true is)

-- a point number is of no edit of a word
point_word : (word : Parts) → word.index ≡ point_number → (what : What) → is_of_word word what ≡ false
point_word word is (Height Reflector reach own) = point_counts 87 word refl is
point_word word is (Height Instrument reach own) = point_counts 88 word refl is
point_word word is (Sighted own) = point_counts 33 word refl is
point_word word is LeftOut = point_counts 33 word refl is
point_word word is OtherSign = point_counts 33 word refl is
point_word word is (Target name) = refl
point_word word is (Station name) = refl

-- the first word is not left out
first_stays : (edits : List Edit) (place : ℕ) (word : Parts) (words : List Parts) → IsFit edits place (word ∷ words) → is_left_out (first_edit edits place word) ≡ false
first_stays edits place word words fit = by (name_edit edits place) (word_edit edits place word) refl refl
  where
    never : (edit : Edit) (leaves : Bool) → leaves_out edit.what ≡ leaves → word_edit edits place word ≡ Some edit → leaves ≡ false
    never edit false e is = refl
    never edit true e is =
        let found = found_among (λ (edit : Edit). covers place edit && is_of_word word edit.what) edits edit is in
        let both = and_parts (covers place edit) (is_of_word word edit.what) found.1 in
        let point : word.index ≡ point_number = eqb-true word.index point_number (fit.pointed edit found.0 both.0 (or_right (is_name edit.what) (leaves_out edit.what) e)) in
        absurd (true≢false (sym both.1 ∙ point_word word point edit.what))

    by : (name own : Option Edit) → name_edit edits place ≡ name → word_edit edits place word ≡ own → is_left_out (or_else name own) ≡ false
    by (Some edit) own is e =
        let found = found_among (λ (edit : Edit). covers place edit && is_name edit.what) edits edit is in
        names_stay edit.what (and_parts (covers place edit) (is_name edit.what) found.1).1
    by None None is e = refl
    by None (Some edit) is e = never edit (leaves_out edit.what) refl e

-- the new words begin with what becomes of the first word
pub record BeginsWith (edits : List Edit) (place : ℕ) (word : Parts) (own : List Parts) : Type 0 where
  pub first : Parts
  pub rest : List Parts
  pub is : own ≡ first ∷ rest
  pub becomes : become_by (first_edit edits place word) word ≡ Some first

pub begins_with : (edits : List Edit) (place : ℕ) (block : BlockParts) (word : Parts) (words own : List Parts) → block.words ≡ word ∷ words → IsFit edits place block.words → mended_words edits place block ≡ Ok own → BeginsWith edits place word own
begins_with edits place block word words own is fit made = by (become_by (first_edit edits place word) word) refl
  where
    both : AreBoth (own_words edits place block.words) (added_words edits place block) own
    both = both_parts (own_words edits place block.words) (added_words edits place block) own made

    own_is : own_words edits place (word ∷ words) ≡ Ok both.front
    own_is = sym (ap (own_words edits place) is) ∙ both.first_is

    first : AreBoth (changed (first_edit edits place word) word) (later_words edits place words) both.front
    first = both_parts (changed (first_edit edits place word) word) (later_words edits place words) both.front own_is

    one : IsOne (first_edit edits place word) word first.front
    one = one_changed (first_edit edits place word) word first.front first.first_is

    by : (new : Option Parts) → become_by (first_edit edits place word) word ≡ new → BeginsWith edits place word own
    by None e = absurd (true≢false (sym (one.left e) ∙ first_stays edits place word words (subst (IsFit edits place) is fit)))
    by (Some own_first) e = record {
      first = own_first;
      rest = first.back ++ both.back;
      is = both.both ∙ ap (λ front. front ++ both.back) (first.both ∙ ap (λ front. front ++ first.back) (one.is ∙ ap option_to_list e));
      becomes = e;
    }

-- where no test passes, nothing is found
nothing : {X : Type 0} (test : X → Bool) (items : List X) → ((item : X) → test item ≡ false) → find test items ≡ None
nothing test [] never = refl
nothing test (item ∷ items) never = ap (λ own. cond own (Some item) (find test items)) (never item) ∙ nothing test items never

or_none : (edit : Option Edit) → or_else edit None ≡ edit
or_none None = refl
or_none (Some edit) = refl

-- the edit of a point number is that of the name
name_on : (edits : List Edit) (place : ℕ) (word : Parts) → word.index ≡ point_number → first_edit edits place word ≡ edit_on edits point_number place
name_on edits place word is =
    ap (or_else (name_edit edits place)) (nothing (λ (edit : Edit). covers place edit && is_of_word word edit.what) edits (λ (edit : Edit). and_right (covers place edit) (is_of_word word edit.what) (point_word word is edit.what)))
    ∙ or_none (name_edit edits place)
    ∙ find_same (λ (edit : Edit). covers place edit && is_name edit.what) (λ (edit : Edit). covers place edit && (index_changed edit.what == point_number)) edits (λ (edit : Edit). ap (λ own. covers place edit && own) (by edit.what))
  where
    by : (what : What) → is_name what ≡ (index_changed what == point_number)
    by (Height Reflector reach own) = refl
    by (Height Instrument reach own) = refl
    by (Sighted own) = refl
    by LeftOut = refl
    by OtherSign = refl
    by (Target name) = refl
    by (Station name) = refl

-- what becomes of a name
become_name : (edit : Option Edit) (word own : Parts) (before : List ℕ) → OfIndex point_number edit → name_of word.body ≡ Some before → become_by edit word ≡ Some own → name_of own.body ≡ Some (renamed_by edit before)
become_name None word own before of reads h = ap (λ (own : Parts). name_of own.body) (sym (same_Some word own h)) ∙ reads
become_name (Some edit) word own before of reads h = by edit.what of h
  where
    by : (what : What) → IsReadable what × ((index_changed what == point_number) ≡ true) → become what word ≡ Some own → name_of own.body ≡ Some (renamed what before)
    by (Target name) (is, e) h = with_name_named name word own is (ok_back (with_name name word) own h)
    by (Station name) (is, e) h = with_name_named name word own is (ok_back (with_name name word) own h)
    by (Height Reflector reach length) (is, e) h = absurd (false≢true e)
    by (Height Instrument reach length) (is, e) h = absurd (false≢true e)
    by (Sighted length) (is, e) h = absurd (false≢true e)
    by LeftOut (is, e) h = absurd (false≢true e)
    by OtherSign (is, e) h = absurd (false≢true e)

-- the name of the point that the mended block begins with
pub name_kept : (edits : List Edit) (place : ℕ) (block : BlockParts) (own : List Parts) (before : List ℕ) → IsFit edits place block.words → mended_words edits place block ≡ Ok own → begins_with_point block.words ≡ true
    → point_name block.words ≡ Some before → point_name own ≡ Some (renamed_by (edit_on edits point_number place) before)
name_kept edits place block own before fit made point named = by block.words refl point named
  where
    by : (words : List Parts) → block.words ≡ words → begins_with_point words ≡ true → point_name words ≡ Some before → point_name own ≡ Some (renamed_by (edit_on edits point_number place) before)
    by [] is point named = absurd (false≢true point)
    by (word ∷ words) is point named =
        let begins = begins_with edits place block word words own is fit made in
        let index : word.index ≡ point_number = eqb-true word.index point_number point in
        let on = name_on edits place word index in
        ap point_name begins.is
        ∙ become_name (edit_on edits point_number place) word begins.first before (of_index edits place point_number fit.readable) named (sym (ap (λ edit. become_by edit word) on) ∙ begins.becomes)
