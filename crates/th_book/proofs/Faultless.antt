-- What a block without a fault of its own words is: the lengths that count can be read, and a sight or a setup has a name.
use Rattle.std.proofs.Common.{◌≡◌, ℕ, ℤ, Bool, true, false, not, cond, ◌&&◌, ◌||◌, List, [], ◌∷◌, ◌++◌, Option, Some, None, Result, Ok, Err, refl, sym, subst}
use Rattle.std.specs.Prelude.{is_some, is_none, find, option_and_then, nat_le, slice_index, ◌*◌}
use Rattle.std.specs.Result.{result_map_both, result_ok}
use Rattle.std.proofs.lemmas.Bool.{false≢true, true≢false, or_parts, not-false, cond-false}
use Rattle.th_units.specs.Lengths.{are_digits, number, signed}
use Rattle.th_units.specs.Units.{step, unit_of}
use Rattle.th_units.specs.declared.units.Unit.{Unit}
use Rattle.th_units.specs.declared.faults.LenFault.TheVariants as len_fault
use Rattle.th_units.specs.Limits.{max_len}
use Rattle.gsi_word.specs.Words.{Parts}
use Rattle.gsi_word.specs.Values as word_data
use Rattle.gsi_word.specs.Values.{in_unit, length_of}
use Rattle.gsi_word.specs.declared.faults.LengthFault.{LengthFault}
use Rattle.gsi_word.specs.declared.faults.LengthFault.TheVariants as length_fault
use Rattle.th_book.specs.Lines.{ParsedLine, counts_for, holds, is_setup, is_sight, length_in, point_name, words_in}
use Rattle.th_book.specs.Faults.{Row, Standing, begins_with_point, first_applying, has_bad_number, has_bad_unit, is_length, is_refused, is_too_large, kind_of, own_faults, repeats_word, sight_faults, some_length}
use Rattle.th_book.specs.declared.faults.BookKind.{BookKind}

-- no row of the table of a block's own faults applies to these words
pub record IsFaultless (words : List Parts) : Type 0 where
  pub once : repeats_word words ≡ false
  pub pointed : ((is_sight words || is_setup words) && not (begins_with_point words)) ≡ false
  pub named : ((is_sight words || is_setup words) && is_none (point_name words)) ≡ false
  pub numbers : some_length has_bad_number words ≡ false
  pub units : some_length has_bad_unit words ≡ false
  pub sizes : some_length is_too_large words ≡ false

-- a row that does not apply is passed over
passed : (applies : Bool) (kind : BookKind) (rest : Option BookKind) → cond applies (Some kind) rest ≡ None → (applies ≡ false) × (rest ≡ None)
passed true kind rest h = (cc, cc)
passed false kind rest h = (refl, h)

-- whatever rows come after them
pub rows_pass : (words : List Parts) (more : List Row) → first_applying (own_faults words ++ more) ≡ None → IsFaultless words
rows_pass words more h =
    let once = passed _ _ _ h in
    let pointed = passed _ _ _ once.1 in
    let named = passed _ _ _ pointed.1 in
    let numbers = passed _ _ _ named.1 in
    let units = passed _ _ _ numbers.1 in
    let sizes = passed _ _ _ units.1 in
    record {
      once = once.0;
      pointed = pointed.0;
      named = named.0;
      numbers = numbers.0;
      units = units.0;
      sizes = sizes.0;
    }

-- a line that says no words has no fault in them
no_words : IsFaultless []
no_words = record {
  once = refl;
  pointed = refl;
  named = refl;
  numbers = refl;
  units = refl;
  sizes = refl;
}

pub faultless : (standing : Standing) (parsed : ParsedLine) → kind_of standing parsed ≡ None → IsFaultless (words_in parsed)
faultless standing (Err fault) h = cc
faultless standing (Ok None) h = no_words
faultless standing (Ok (Some block)) h = rows_pass block.words (cond (is_sight block.words) (sight_faults standing (point_name block.words)) []) h

-- a length whose data are digits is read, or it is too large
digits_read : (digits within : Bool) (length : ℤ) → digits ≡ true → is_refused length_fault.TooLarge (result_map_both (λ read. read) word_data.length_fault (cond digits (cond within (Ok length) (Err len_fault.TooLarge)) (Err len_fault.NotDigits))) ≡ false → is_some (result_ok (result_map_both (λ read. read) word_data.length_fault (cond digits (cond within (Ok length) (Err len_fault.TooLarge)) (Err len_fault.NotDigits)))) ≡ true
digits_read true true length d h = refl
digits_read true false length d h = absurd (true≢false h)
digits_read false within length d h = absurd (false≢true d)

unit_read : (word : Parts) (unit : Option Unit) → are_digits word.body ≡ true → is_none unit ≡ false → is_refused length_fault.TooLarge (in_unit word unit) ≡ false → is_some (result_ok (in_unit word unit)) ≡ true
unit_read word None d u h = absurd (true≢false u)
unit_read word (Some unit) d u h =
    let size = number word.body * step unit in
    digits_read (are_digits word.body) (nat_le size max_len) (signed word.negative size) d h

-- the length of a word without a defect is read
word_read : (word : Parts) → has_bad_number word ≡ false → has_bad_unit word ≡ false → is_too_large word ≡ false → is_some (result_ok (length_of word)) ≡ true
word_read word numbered with_unit within =
    let read : length_of word ≡ in_unit word (unit_of (slice_index word.info 3)) = cond-false _ _ _ numbered in
    subst
    (λ (length : Result ℤ LengthFault). is_some (result_ok length) ≡ true)
    (sym read)
    (unit_read word (unit_of (slice_index word.info 3)) (not-false (are_digits word.body) numbered) with_unit (subst (λ (length : Result ℤ LengthFault). is_refused length_fault.TooLarge length ≡ false) read within))

-- a word that counts has no defect that no length has
sound : (is defect : Bool) → is ≡ true → (is && defect) ≡ false → defect ≡ false
sound true defect e h = h
sound false defect e h = absurd (false≢true e)

-- a height that is held without a defect is read
pub held_is_read : (index : ℕ) → ((word : Parts) → counts_for index word ≡ true → is_length word ≡ true) → (words : List Parts) → some_length has_bad_number words ≡ false → some_length has_bad_unit words ≡ false → some_length is_too_large words ≡ false → holds index words ≡ true → is_some (length_in index words) ≡ true
held_is_read index lengthy [] numbers units sizes h = absurd (false≢true h)
held_is_read index lengthy (word ∷ words) numbers units sizes h =
    go (counts_for index word) refl h
    (held_is_read index lengthy words (or_parts _ _ numbers).1 (or_parts _ _ units).1 (or_parts _ _ sizes).1)
  where
    go : (counts : Bool) → counts_for index word ≡ counts → (counts || holds index words) ≡ true → (holds index words ≡ true → is_some (length_in index words) ≡ true) → is_some (option_and_then (λ (own : Parts). result_ok (length_of own)) (cond counts (Some word) (find (counts_for index) words))) ≡ true
    go true e first later =
        let is = lengthy word e in
        word_read word
        (sound _ _ is (or_parts _ _ numbers).0)
        (sound _ _ is (or_parts _ _ units).0)
        (sound _ _ is (or_parts _ _ sizes).0)
    go false e first later = later first
