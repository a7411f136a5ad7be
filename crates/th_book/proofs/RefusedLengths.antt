-- The lengths that were counted are refused for the faults that the table asks of the words.
use Rattle.std.proofs.Common.{◌≡◌, ℤ, Bool, true, false, not, cond, ◌&&◌, ◌||◌, List, [], ◌∷◌, Option, Some, None, Ok, Err, refl, sym, ap, ◌∙◌}
use Rattle.std.specs.Prelude.{is_none, nat_le, slice_index, ◌*◌}
use Rattle.std.specs.Result.{result_map_both}
use Rattle.std.proofs.lemmas.Bool.{false≢true, not-false, or_parts, cond-false}
use Rattle.th_units.specs.Lengths.{are_digits, number, signed}
use Rattle.th_units.specs.Units.{step, unit_of}
use Rattle.th_units.specs.declared.units.Unit.{Unit}
use Rattle.th_units.specs.declared.faults.LenFault.TheVariants as len_fault
use Rattle.th_units.specs.Limits.{max_len}
use Rattle.gsi_word.specs.Words.{Parts}
use Rattle.gsi_word.specs.Values as word_data
use Rattle.gsi_word.specs.Values.{in_unit, length_of}
use Rattle.gsi_word.specs.declared.faults.LengthFault.TheVariants as length_fault
use Rattle.th_book.specs.Faults.{first_applying, has_bad_number, has_bad_unit, is_length, is_refused, is_too_large, length_faults, some_length}
use Rattle.th_book.specs.Inside.Countings.{counted_fault, counted_in, is_refused_for}
use Rattle.th_book.specs.declared.faults.BookKind.TheVariants.{BadNumber, BadUnit, TooLarge}
use Rattle.th_book.proofs.CountedWords.{any_same}

-- a length of digits is not refused for its number, nor for its unit where it has one
in_unit-digits : (word : Parts) (unit : Option Unit) → are_digits word.body ≡ true → is_refused length_fault.BadNumber (in_unit word unit) ≡ false
in_unit-digits word None digits = refl
in_unit-digits word (Some unit) digits = go (are_digits word.body) (nat_le (number word.body * step unit) max_len) (signed word.negative (number word.body * step unit)) digits
  where
    go : (numbered within : Bool) (length : ℤ) → numbered ≡ true → is_refused length_fault.BadNumber (result_map_both (λ read. read) word_data.length_fault (cond numbered (cond within (Ok length) (Err len_fault.TooLarge)) (Err len_fault.NotDigits))) ≡ false
    go true true length e = refl
    go true false length e = refl
    go false within length e = absurd (false≢true e)

in_unit-unit : (word : Parts) (unit : Option Unit) → are_digits word.body ≡ true → is_none unit ≡ is_refused length_fault.BadUnit (in_unit word unit)
in_unit-unit word None digits = refl
in_unit-unit word (Some unit) digits = go (are_digits word.body) (nat_le (number word.body * step unit) max_len) (signed word.negative (number word.body * step unit)) digits
  where
    go : (numbered within : Bool) (length : ℤ) → numbered ≡ true → false ≡ is_refused length_fault.BadUnit (result_map_both (λ read. read) word_data.length_fault (cond numbered (cond within (Ok length) (Err len_fault.TooLarge)) (Err len_fault.NotDigits)))
    go true true length e = refl
    go true false length e = refl
    go false within length e = absurd (false≢true e)

-- a word with a bad number is refused for it
number_refused : (word : Parts) → has_bad_number word ≡ is_refused length_fault.BadNumber (length_of word)
number_refused word = go (are_digits word.body) (λ digits. in_unit-digits word (unit_of (slice_index word.info 3)) digits)
  where
    go : (digits : Bool) → (digits ≡ true → is_refused length_fault.BadNumber (in_unit word (unit_of (slice_index word.info 3))) ≡ false) → not digits ≡ is_refused length_fault.BadNumber (cond (not digits) (Err length_fault.BadNumber) (in_unit word (unit_of (slice_index word.info 3))))
    go true good = sym (good refl)
    go false good = refl

-- a word with a good number and a bad unit is refused for its unit
unit_refused : (word : Parts) → has_bad_number word ≡ false → has_bad_unit word ≡ is_refused length_fault.BadUnit (length_of word)
unit_refused word numbered =
    in_unit-unit word (unit_of (slice_index word.info 3)) (not-false (are_digits word.body) numbered)
    ∙ ap (is_refused length_fault.BadUnit) (sym (cond-false (has_bad_number word) _ _ numbered))

-- where no length has a bad number, the bad units are the refusals for a unit
units_refused : (words : List Parts) → some_length has_bad_number words ≡ false → some_length has_bad_unit words ≡ some_length (is_refused_for length_fault.BadUnit) words
units_refused [] numbered = refl
units_refused (word ∷ words) numbered =
    ap (λ first. first || some_length has_bad_unit words) (here (is_length word) (or_parts _ _ numbered).0)
    ∙ ap (λ rest. (is_length word && is_refused_for length_fault.BadUnit word) || rest) (units_refused words (or_parts _ _ numbered).1)
  where
    here : (is : Bool) → (is && has_bad_number word) ≡ false → (is && has_bad_unit word) ≡ (is && is_refused_for length_fault.BadUnit word)
    here true e = unit_refused word e
    here false e = refl

-- the first kind of fault of the lengths that were counted is that of the table
pub counted_fault_same : (words : List Parts) → counted_fault (counted_in words) ≡ first_applying (length_faults words)
counted_fault_same words =
    go (some_length has_bad_number words) (some_length has_bad_unit words)
    (any_same _ _ (λ word. ap (λ refused. is_length word && refused) (number_refused word)) words)
    (units_refused words)
  where
    go : (number unit : Bool) → number ≡ some_length (is_refused_for length_fault.BadNumber) words → (number ≡ false → unit ≡ some_length (is_refused_for length_fault.BadUnit) words) → counted_fault (counted_in words) ≡ cond number (Some BadNumber) (cond unit (Some BadUnit) (cond (some_length is_too_large words) (Some TooLarge) None))
    go true unit e later = ap (λ number. cond number (Some BadNumber) (cond (some_length (is_refused_for length_fault.BadUnit) words) (Some BadUnit) (cond (some_length is_too_large words) (Some TooLarge) None))) (sym e)
    go false unit e later =
        ap (λ number. cond number (Some BadNumber) (cond (some_length (is_refused_for length_fault.BadUnit) words) (Some BadUnit) (cond (some_length is_too_large words) (Some TooLarge) None))) (sym e)
        ∙ ap (λ own. cond own (Some BadUnit) (cond (some_length is_too_large words) (Some TooLarge) None)) (sym (later refl))
