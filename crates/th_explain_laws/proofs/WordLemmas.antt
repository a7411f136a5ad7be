-- What becomes of the words of a line that count for an index.
use Rattle.std.proofs.Common.{◌≡◌, ℕ, ℤ, ◌==◌, ◌&&◌, ◌||◌, ◌⊎◌, inl, inr, Bool, true, false, cond, List, [], ◌∷◌, ◌++◌, Option, Some, None, Result, Ok, Err, length, refl, sym, ap, subst, ◌∙◌, arith}
use Rattle.std.specs.List.{find}
use Rattle.std.specs.Option.{option_map_or}
use Rattle.std.specs.Prelude.{is_some, option_and_then, option_to_list, slice_index}
use Rattle.std.specs.Result.{result_ok}
use Rattle.std.proofs.lemmas.Bool.{cases_eq, eq-eqb, false≢true, ne_eqb, true≢false}
use Rattle.std.proofs.lemmas.Bool.Decides.{nat_tests}
use Rattle.std.proofs.lemmas.Option.{none-some, same_Some}
use Rattle.th_units.specs.Units.{unit_of}
use Rattle.th_units.specs.declared.units.Unit.{Unit}
use Rattle.gsi_word.specs.Indexes.{point_number}
use Rattle.gsi_word.specs.Words.{Parts, parts, result_map}
use Rattle.th_book.specs.Lines.{counts_for, holds}
use Rattle.th_entries.specs.declared.entries.HeightKind.TheVariants.{Instrument, Reflector}
use Rattle.th_mend.specs.declared.changes.What.{What}
use Rattle.th_mend.specs.declared.changes.What.TheVariants.{Height, LeftOut, OtherSign, Sighted, Station, Target}
use Rattle.th_mend.specs.NewWords.{in_unit, length_data, name_data, with_body, with_length, with_name, with_other_sign}
use Rattle.th_mend.specs.declared.misfits.Misfit.{Misfit}
use Rattle.th_mend.specs.Edits.{covers, index_changed}
use Rattle.th_mend.specs.MendedLines.{NewWords, and_then, changed, changed_by, is_of_word, later_words, made, name_edit, or_else, own_words, word_edit}
use Rattle.th_mend.specs.declared.edits.Edit.{Edit}
use Rattle.th_explain_laws.specs.Corrected.{edit_on, is_left_out, leaves_out}

-- two tests that agree find the same
pub find_same : {X : Type 0} → (test other : X → Bool) (items : List X) → ((item : X) → test item ≡ other item) → find test items ≡ find other items
find_same test other [] same = refl
find_same test other (item ∷ items) same =
    ap (λ own. cond own (Some item) (find test items)) (same item) ∙ ap (λ found. cond (other item) (Some item) found) (find_same test other items same)

-- a word is held where one is found
pub holds-find : (index : ℕ) (words : List Parts) → holds index words ≡ is_some (find (counts_for index) words)
holds-find index [] = refl
holds-find index (word ∷ words) = by (counts_for index word) (holds-find index words)
  where
    by : (counts : Bool) → holds index words ≡ is_some (find (counts_for index) words) → (counts || holds index words) ≡ is_some (cond counts (Some word) (find (counts_for index) words))
    by true rest = refl
    by false rest = rest

-- the word that becomes of a word
abbrev pub become : What → Parts → Option Parts
become (Height kind reach own) word = result_ok (with_length own word)
become (Sighted own) word = result_ok (with_length own word)
become LeftOut word = None
become OtherSign word = Some (with_other_sign word)
become (Target name) word = result_ok (with_name name word)
become (Station name) word = result_ok (with_name name word)

abbrev pub become_by : Option Edit → Parts → Option Parts
become_by None word = Some word
become_by (Some edit) word = become edit.what word

-- a word that was made is the only one
pub made_one : (row : ℕ) (found : Result Parts Misfit) (own : List Parts) → made row found ≡ Ok own → (word : Parts) × (found ≡ Ok word) × (own ≡ word ∷ [])
made_one row (Ok word) own h = (word, refl, sym (cc h))
made_one row (Err fault) own h = absurd (cc h)

-- what becomes of a word is one word, or none if it is left out
pub record IsOne (edit : Option Edit) (word : Parts) (own : List Parts) : Type 0 where
  pub is : own ≡ option_to_list (become_by edit word)
  pub left : become_by edit word ≡ None → is_left_out edit ≡ true

one_made : (row : ℕ) (what : What) (edit : Edit) (word : Parts) (found : Result Parts Misfit) (own : List Parts) → edit.what ≡ what → made row found ≡ Ok own → become what word ≡ result_ok found → IsOne (Some edit) word own
one_made row what edit word found own is h same =
    let one = made_one row found own h in
    let new : become edit.what word ≡ Some one.0 = ap (λ what. become what word) is ∙ same ∙ ap result_ok one.1 in
    record {
      is = one.2 ∙ sym (ap option_to_list new);
      left = λ none. absurd (let never : None ≡ Some one.0 = sym none ∙ new in none-some one.0 never);
    }

pub one_changed : (edit : Option Edit) (word : Parts) (own : List Parts) → changed edit word ≡ Ok own → IsOne edit word own
one_changed None word own h = record { is = sym (cc h); left = λ none. absurd (none-some word (sym none)) }
one_changed (Some edit) word own h = by edit.what refl h
  where
    by : (what : What) → edit.what ≡ what → changed_by edit what word ≡ Ok own → IsOne (Some edit) word own
    by (Height kind reach length) is h = one_made edit.row (Height kind reach length) edit word (with_length length word) own is h refl
    by (Sighted length) is h = one_made edit.row (Sighted length) edit word (with_length length word) own is h refl
    by (Target name) is h = one_made edit.row (Target name) edit word (with_name name word) own is h refl
    by (Station name) is h = one_made edit.row (Station name) edit word (with_name name word) own is h refl
    by LeftOut is h = record {
      is = let same : own ≡ [] = sym (cc h) in same ∙ sym (ap (λ what. option_to_list (become what word)) is);
      left = λ none. ap leaves_out is;
    }
    by OtherSign is h = record {
      is = let same : own ≡ with_other_sign word ∷ [] = sym (cc h) in same ∙ sym (ap (λ what. option_to_list (become what word)) is);
      left = λ none. absurd (let never : None ≡ Some (with_other_sign word) = sym none ∙ ap (λ what. become what word) is in none-some (with_other_sign word) never);
    }

-- nothing becomes of the words that are left out
pub left_none : (edit : Option Edit) (word : Parts) → is_left_out edit ≡ true → become_by edit word ≡ None
left_none None word h = absurd (false≢true h)
left_none (Some edit) word h = by edit.what refl h
  where
    by : (what : What) → edit.what ≡ what → leaves_out what ≡ true → become edit.what word ≡ None
    by (Height kind reach length) is h = absurd (false≢true h)
    by (Sighted length) is h = absurd (false≢true h)
    by (Target name) is h = absurd (false≢true h)
    by (Station name) is h = absurd (false≢true h)
    by OtherSign is h = absurd (false≢true h)
    by LeftOut is h = ap (λ what. become what word) is

-- a word that was mapped
pub mapped : (see : List ℕ → Parts) (found : Result (List ℕ) Misfit) (own : Parts) → result_ok (result_map see found) ≡ Some own → (body : List ℕ) × (found ≡ Ok body) × (own ≡ see body)
mapped see (Ok body) own h = (body, refl, sym (cc h))
mapped see (Err fault) own h = absurd (cc h)

-- what stays of a word: its index and its information
pub record IsOfIts (word own : Parts) : Type 0 where
  pub index : own.index ≡ word.index
  pub info : own.info ≡ word.info

with_length_of : (length : ℤ) (word own : Parts) → result_ok (with_length length word) ≡ Some own → IsOfIts word own
with_length_of length word own h = by (unit_of (slice_index word.info 3)) h
  where
    by : (unit : Option Unit) → result_ok (in_unit length word unit) ≡ Some own → IsOfIts word own
    by None h = absurd (cc h)
    by (Some unit) h =
        let found = mapped (with_body word length) (length_data _ length unit) own h in
        record { index = ap (λ (own : Parts). own.index) found.2; info = ap (λ (own : Parts). own.info) found.2 }

with_name_of : (name : List ℕ) (word own : Parts) → result_ok (with_name name word) ≡ Some own → IsOfIts word own
with_name_of name word own h =
    let found = mapped (parts word.index word.info word.negative) (name_data _ name) own h in
    record { index = ap (λ (own : Parts). own.index) found.2; info = ap (λ (own : Parts). own.info) found.2 }

pub become_of : (what : What) (word own : Parts) → become what word ≡ Some own → IsOfIts word own
become_of (Height kind reach length) word own h = with_length_of length word own h
become_of (Sighted length) word own h = with_length_of length word own h
become_of LeftOut word own h = absurd (cc h)
become_of OtherSign word own h =
    let same : with_other_sign word ≡ own = cc h in
    record { index = sym (ap (λ (own : Parts). own.index) same); info = sym (ap (λ (own : Parts). own.info) same) }
become_of (Target name) word own h = with_name_of name word own h
become_of (Station name) word own h = with_name_of name word own h

pub become_by_of : (edit : Option Edit) (word own : Parts) → become_by edit word ≡ Some own → IsOfIts word own
become_by_of None word own h = let same : word ≡ own = cc h in record { index = sym (ap (λ (own : Parts). own.index) same); info = sym (ap (λ (own : Parts). own.info) same) }
become_by_of (Some edit) word own h = become_of edit.what word own h

-- so it counts for the same index
pub counts_same : (index : ℕ) (word own : Parts) → IsOfIts word own → counts_for index own ≡ counts_for index word
counts_same index word own is =
    ap (λ info. option_map_or (λ other. other == index) (cond (slice_index info 0 == 46) (Some own.index) None) false) is.info
    ∙ ap (λ found. option_map_or (λ other. other == index) (cond (slice_index word.info 0 == 46) (Some found) None) false) is.index

-- a word counts for one index
one_index : (index : ℕ) (word : Parts) → counts_for index word ≡ true → (other : ℕ) → counts_for other word ≡ (index == other)
one_index index word counts other = by (slice_index word.info 0 == 46) counts
  where
    by : (dot : Bool) → option_map_or (λ own. own == index) (cond dot (Some word.index) None) false ≡ true → option_map_or (λ own. own == other) (cond dot (Some word.index) None) false ≡ (index == other)
    by true h =
        let same : word.index ≡ index = grind (arith, nat_tests) in
        ap (λ own. own == other) same
    by false h = absurd (false≢true h)

swapped : (a b : ℕ) → (a == b) ≡ (b == a)
swapped a b = by (cases_eq a b)
  where
    by : (a ≡ b) ⊎ (a ≡ b → ⊥) → (a == b) ≡ (b == a)
    by (inl same) = eq-eqb a b same ∙ sym (eq-eqb b a (sym same))
    by (inr other) = ne_eqb a b other ∙ sym (ne_eqb b a (λ same. other (sym same)))

-- a word's edit is that of its index
pub word_edit-on : (edits : List Edit) (place index : ℕ) (word : Parts) → (point_number == index) ≡ false → counts_for index word ≡ true → word_edit edits place word ≡ edit_on edits index place
word_edit-on edits place index word other counts =
    find_same (λ (edit : Edit). covers place edit && is_of_word word edit.what) (λ (edit : Edit). covers place edit && (index_changed edit.what == index)) edits
    (λ (edit : Edit). ap (λ own. covers place edit && own) (by edit.what))
  where
    same : (own : ℕ) → counts_for own word ≡ (own == index)
    same own = one_index index word counts own ∙ swapped index own

    by : (what : What) → is_of_word word what ≡ (index_changed what == index)
    by (Height Reflector reach length) = same 87
    by (Height Instrument reach length) = same 88
    by (Sighted length) = same 33
    by LeftOut = same 33
    by OtherSign = same 33
    by (Target name) = sym other
    by (Station name) = sym other

-- the parts of new words that were put together
pub record AreBoth (first later : NewWords) (own : List Parts) : Type 0 where
  pub front : List Parts
  pub back : List Parts
  pub first_is : first ≡ Ok front
  pub later_is : later ≡ Ok back
  pub both : own ≡ front ++ back

pub both_parts : (first later : NewWords) (own : List Parts) → and_then first later ≡ Ok own → AreBoth first later own
both_parts (Err fault) later own h = absurd (cc h)
both_parts (Ok front) (Err fault) own h = absurd (cc h)
both_parts (Ok front) (Ok back) own h = record { front = front; back = back; first_is = refl; later_is = refl; both = sym (cc h) }

-- what is found among new words is what becomes of the word that was found, unless that is left out
pub record IsFound (edit : Option Edit) (old new : Option Parts) : Type 0 where
  pub is : new ≡ option_and_then (become_by edit) old
  pub left : (word : Parts) → old ≡ Some word → become_by edit word ≡ None → is_left_out edit ≡ true

option_none : (edit : Option Edit) (found : Option Parts) → is_left_out edit ≡ true → option_and_then (become_by edit) found ≡ None
option_none edit None left = refl
option_none edit (Some word) left = left_none edit word left

-- what is found behind one more word
found_more : (edits : List Edit) (place index : ℕ) (edit : Option Edit) (word : Parts) (words front back : List Parts)
    → (counts_for index word ≡ true → edit ≡ edit_on edits index place) → changed edit word ≡ Ok front
    → IsFound (edit_on edits index place) (find (counts_for index) words) (find (counts_for index) back)
    → IsFound (edit_on edits index place) (find (counts_for index) (word ∷ words)) (find (counts_for index) (front ++ back))
found_more edits place index edit word words front back is h rest =
    subst (λ front. IsFound on (find p (word ∷ words)) (find p (front ++ back))) (sym one.is) (by (become_by edit word) (counts_for index word) refl refl)
  where
    p : Parts → Bool
    p = counts_for index

    on : Option Edit
    on = edit_on edits index place

    one : IsOne edit word front
    one = one_changed edit word front h

    left : counts_for index word ≡ true → (other : Parts) → Some word ≡ Some other → become_by on other ≡ None → is_left_out on ≡ true
    left counts other same none =
        let is_word : become_by edit word ≡ None = ap (λ edit. become_by edit word) (is counts) ∙ ap (become_by on) (same_Some word other same) ∙ none in
        sym (ap is_left_out (is counts)) ∙ one.left is_word

    by : (new : Option Parts) (counts : Bool) → become_by edit word ≡ new → counts_for index word ≡ counts → IsFound on (cond counts (Some word) (find p words)) (find p (option_to_list new ++ back))
    by None false new counts = rest
    by (Some own) false new counts =
        let not_own : p own ≡ false = counts_same index word own (become_by_of edit word own new) ∙ counts in
        record { is = ap (λ own_counts. cond own_counts (Some own) (find p back)) not_own ∙ rest.is; left = rest.left }
    by None true new counts =
        let out : is_left_out on ≡ true = sym (ap is_left_out (is counts)) ∙ one.left new in
        record { is = rest.is ∙ option_none on (find p words) out ∙ sym (left_none on word out); left = left counts }
    by (Some own) true new counts =
        let its : p own ≡ true = counts_same index word own (become_by_of edit word own new) ∙ counts in
        record { is = ap (λ own_counts. cond own_counts (Some own) (find p back)) its ∙ sym new ∙ ap (λ edit. become_by edit word) (is counts); left = left counts }

-- where there are no words
no_words : (edit : Option Edit) (index : ℕ) (own : List Parts) → ◌≡◌ {A = NewWords} (Ok []) (Ok own) → IsFound edit None (find (counts_for index) own)
no_words edit index own h =
    let none : own ≡ [] = sym (cc h) in
    record { is = ap (find (counts_for index)) none; left = λ word same none. absurd (none-some word same) }

-- what is found in the words behind the first, and in all of them
later_found : (edits : List Edit) (place index : ℕ) (words own : List Parts) → (point_number == index) ≡ false → later_words edits place words ≡ Ok own
    → IsFound (edit_on edits index place) (find (counts_for index) words) (find (counts_for index) own)
later_found edits place index [] own other h = no_words (edit_on edits index place) index own h
later_found edits place index (word ∷ words) own other h =
    let both = both_parts (changed (word_edit edits place word) word) (later_words edits place words) own h in
    subst (λ own. IsFound (edit_on edits index place) (find (counts_for index) (word ∷ words)) (find (counts_for index) own)) (sym both.both)
    (found_more edits place index (word_edit edits place word) word words both.front both.back (word_edit-on edits place index word other) both.first_is
    (later_found edits place index words both.back other both.later_is))

-- no edit of a name reaches a place, or its first word is a point number
abbrev pub IsPointed : List Edit → ℕ → List Parts → Type 0
IsPointed edits place [] = Prim.Unit {0}
IsPointed edits place (word ∷ words) = (name_edit edits place ≡ None) ⊎ (word.index ≡ point_number)

-- a point number counts for no other index
pub point_counts : (index : ℕ) (word : Parts) → (point_number == index) ≡ false → word.index ≡ point_number → counts_for index word ≡ false
point_counts index word other is = by (slice_index word.info 0 == 46)
  where
    by : (dot : Bool) → option_map_or (λ own. own == index) (cond dot (Some word.index) None) false ≡ false
    by true = ap (λ own. own == index) is ∙ other
    by false = refl

pub own_found : (edits : List Edit) (place index : ℕ) (words own : List Parts) → (point_number == index) ≡ false → IsPointed edits place words → own_words edits place words ≡ Ok own
    → IsFound (edit_on edits index place) (find (counts_for index) words) (find (counts_for index) own)
own_found edits place index [] own other pointed h = no_words (edit_on edits index place) index own h
own_found edits place index (word ∷ words) own other pointed h =
    let both = both_parts (changed (or_else (name_edit edits place) (word_edit edits place word)) word) (later_words edits place words) own h in
    subst (λ own. IsFound (edit_on edits index place) (find (counts_for index) (word ∷ words)) (find (counts_for index) own)) (sym both.both)
    (found_more edits place index (or_else (name_edit edits place) (word_edit edits place word)) word words both.front both.back (by pointed) both.first_is
    (later_found edits place index words both.back other both.later_is))
  where
    by : (name_edit edits place ≡ None) ⊎ (word.index ≡ point_number) → counts_for index word ≡ true → or_else (name_edit edits place) (word_edit edits place word) ≡ edit_on edits index place
    by (inl none) counts = ap (λ name. or_else name (word_edit edits place word)) none ∙ word_edit-on edits place index word other counts
    by (inr point) counts = absurd (true≢false (sym counts ∙ point_counts index word other point))
