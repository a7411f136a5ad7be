-- A word with another length writes it, and one with another name has it.
use Rattle.std.proofs.Common.{◌≡◌, ◌<◌, ◌≤◌, ◌+◌, ◌-◌, ◌*◌, ◌/◌, ◌%◌, ◌^◌, ◌==◌, ◌&&◌, ℕ, ℤ, zero, suc, pos, negsuc, Bool, true, false, not, cond, List, [], ◌∷◌, ◌++◌, Option, Some, None, Result, Ok, Err, if◌then◌else◌, length, nat_le, nat_lt, replicate, unsigned_abs, refl, sym, ap, subst, ◌∙◌, arith, length-append}
use Rattle.std.specs.Char.{digit_value}
use Rattle.std.specs.Int.{is_negative}
use Rattle.std.specs.List.{list_all}
use Rattle.std.specs.Prelude.{slice_index}
use Rattle.std.specs.Result.{result_map_both}
use Rattle.std.proofs.Math.Nat.{pow-suc}
use Rattle.std.proofs.lemmas.Bool.{lt-ltb}
use Rattle.std.proofs.lemmas.Bool.Decides.{nat_tests}
use Rattle.std.proofs.lemmas.Int.Digits.{digits_value_push}
use Rattle.std.proofs.lemmas.Str.{digit_value_digit}
use Rattle.th_units.specs.Lengths.{are_digits, is_digit, number, signed}
use Rattle.th_units.specs.Limits.{max_len}
use Rattle.th_units.specs.Metres.{last_digits}
use Rattle.th_units.specs.Units.{step, unit_of}
use Rattle.th_units.specs.declared.faults.LenFault.TheVariants as len_fault
use Rattle.th_units.specs.declared.units.Unit.{Unit}
use Rattle.th_units.specs.declared.units.Unit.TheVariants.{Mm, MilliFoot, TenthMm, TenMilliFoot, HundredthMm}
use Rattle.gsi_word.specs.Values.{in_unit as read_in_unit, length_fault, length_of}
use Rattle.gsi_word.specs.Words.{Parts, data_len, parts, result_map}
use Rattle.gsi_word.specs.declared.faults.LengthFault.TheVariants.{BadNumber}
use Rattle.gsi_word.specs.declared.words.Width.{Width}
use Rattle.gsi_word.specs.declared.words.Width.TheVariants.{Eight, Sixteen}
use Rattle.th_columns.proofs.DigitLemmas.{last_digits-all}
use Rattle.th_mend.specs.NewWords.{added_in, added_word, in_unit, info_of, length_data, with_body, with_length}
use Rattle.th_mend.specs.declared.misfits.Misfit.{Misfit}
use Rattle.th_mend.specs.declared.misfits.Misfit.TheVariants.{NotWhole, NoUnit, TooManyDigits}
use Rattle.th_mend.proofs.BodyLemmas.{length-digits}

-- how many bytes some data have
abbrev pub bytes : List ℕ → ℕ
bytes found = length found

digit_is : (digit : ℕ) → digit < 10 → is_digit (48 + digit) ≡ true
digit_is digit small = grind (arith, nat_tests)

pub number-last_digits : (count n : ℕ) → n < 10 ^ count → number (last_digits count n) ≡ n
unfolding last_digits
number-last_digits zero n small = omega arith
number-last_digits (suc count) n small =
    let front : number (last_digits count (n / 10)) ≡ n / 10 = number-last_digits count (n / 10) (omega (arith, pow-suc 10 count)) in
    let digit : digit_value (48 + n % 10) + 48 ≡ 48 + n % 10 = digit_value_digit (48 + n % 10) (omega arith, omega arith) in
    omega (arith, digits_value_push 10 (last_digits count (n / 10)) (48 + n % 10), front, digit)

pub digits_are : (count n : ℕ) → 0 < count → are_digits (last_digits count n) ≡ true
digits_are count n some =
    let there : nat_lt 0 (length (last_digits count n)) ≡ true = rw (length-digits count n) (lt-ltb 0 count some) in
    ap (λ b. b && list_all is_digit (last_digits count n)) there ∙ last_digits-all is_digit digit_is count n

not_negative : (n : ℕ) → is_negative (pos n) ≡ false
not_negative n = grind (arith, nat_tests)

pub signed_back : (length : ℤ) → signed (is_negative length) (unsigned_abs length) ≡ length
signed_back (pos n) = ap (λ b. signed b n) (not_negative n)
signed_back (negsuc n) = refl

-- a size of whole units
whole_units : (unit : Unit) (size : ℕ) → size % step unit ≡ 0 → size / step unit * step unit ≡ size
whole_units Mm size whole = omega (arith, whole)
whole_units MilliFoot size whole = omega (arith, whole)
whole_units TenthMm size whole = omega (arith, whole)
whole_units TenMilliFoot size whole = omega (arith, whole)
whole_units HundredthMm size whole = omega (arith, whole)

-- what a sign and digits write in a unit
pub read_in : (unit : Unit) (index : ℕ) (info : List ℕ) (negative : Bool) (body : List ℕ) (size : ℕ) → unit_of (slice_index info 3) ≡ Some unit → are_digits body ≡ true
    → number body * step unit ≡ size → size ≤ max_len → length_of (parts index info negative body) ≡ Ok (signed negative size)
read_in unit index info negative body size known_unit digits is small =
    let within : nat_le size max_len ≡ true = grind (arith, nat_tests) in
    let fits : nat_le (number body * step unit) max_len ≡ true = ap (λ (n : ℕ). nat_le n max_len) is ∙ within in
    ap (λ (b : Bool). if not b then Err BadNumber else read_in_unit (parts index info negative body) (unit_of (slice_index info 3))) digits
    ∙ ap (read_in_unit (parts index info negative body)) known_unit
    ∙ ap (λ (b : Bool). result_map_both (λ (length : ℤ). length) length_fault (if b then (if nat_le (number body * step unit) max_len then Ok (signed negative (number body * step unit)) else Err len_fault.TooLarge) else Err len_fault.NotDigits)) digits
    ∙ ap (λ (b : Bool). result_map_both (λ (length : ℤ). length) length_fault (if b then Ok (signed negative (number body * step unit)) else Err len_fault.TooLarge)) fits
    ∙ ap (λ (n : ℕ). Ok (signed negative n)) is

-- the data of a length write it
pub data_read : (unit : Unit) (index : ℕ) (info : List ℕ) (digits : ℕ) (length : ℤ) (body : List ℕ) → unit_of (slice_index info 3) ≡ Some unit → 0 < digits
    → unsigned_abs length ≤ max_len → length_data digits length unit ≡ Ok body → length_of (parts index info (is_negative length) body) ≡ Ok length
data_read unit index info digits length body known some small h = by (unsigned_abs length % step unit == 0) (nat_le (10 ^ digits) count) refl refl h
  where
    count : ℕ
    count = unsigned_abs length / step unit

    by : (whole many : Bool) → (unsigned_abs length % step unit == 0) ≡ whole → nat_le (10 ^ digits) count ≡ many
        → ◌≡◌ {A = Result (List ℕ) Misfit} (cond (not whole) (Err NotWhole) (cond many (Err TooManyDigits) (Ok (last_digits digits count)))) (Ok body)
        → length_of (parts index info (is_negative length) body) ≡ Ok length
    by false many is_whole is_many h = absurd (cc h)
    by true true is_whole is_many h = absurd (cc h)
    by true false is_whole is_many h =
        let same : last_digits digits count ≡ body = cc h in
        let rest : unsigned_abs length % step unit ≡ 0 = grind (arith, nat_tests) in
        let room : count < 10 ^ digits = grind (arith, nat_tests) in
        let size : number (last_digits digits count) * step unit ≡ unsigned_abs length =
        ap (λ n. n * step unit) (number-last_digits digits count room) ∙ whole_units unit (unsigned_abs length) rest in
        subst (λ found. length_of (parts index info (is_negative length) found) ≡ Ok length) same
        (read_in unit index info (is_negative length) (last_digits digits count) (unsigned_abs length) known (digits_are digits count some) size small ∙ ap Ok (signed_back length))

-- a word with another length writes it
pub with_length_read : (length : ℤ) (word own : Parts) → 0 < bytes word.body → unsigned_abs length ≤ max_len → with_length length word ≡ Ok own → length_of own ≡ Ok length
with_length_read length word own some small h = by (unit_of (slice_index word.info 3)) refl h
  where
    by : (unit : Option Unit) → unit_of (slice_index word.info 3) ≡ unit → in_unit length word unit ≡ Ok own → length_of own ≡ Ok length
    by None known h = absurd (cc h)
    by (Some unit) known h = made (length_data (bytes word.body) length unit) refl h
      where
        made : (found : Result (List ℕ) Misfit) → length_data (bytes word.body) length unit ≡ found → result_map (with_body word length) found ≡ Ok own → length_of own ≡ Ok length
        made (Err fault) is h = absurd (cc h)
        made (Ok body) is h =
            let same : with_body word length body ≡ own = cc h in
            subst (λ it. length_of it ≡ Ok length) same (data_read unit word.index word.info (bytes word.body) length body known some small is)

some_data : (width : Width) → 0 < data_len width
some_data Eight = omega arith
some_data Sixteen = omega arith

added_in_read : (width : Width) (index : ℕ) (length : ℤ) (unit : Unit) (own : Parts) → unit_of (slice_index (info_of unit) 3) ≡ Some unit → unsigned_abs length ≤ max_len → added_in width index length unit ≡ Ok own → length_of own ≡ Ok length
added_in_read width index length unit own known small h = made (length_data (data_len width) length unit) refl h
  where
    made : (found : Result (List ℕ) Misfit) → length_data (data_len width) length unit ≡ found → result_map (parts index (info_of unit) (is_negative length)) found ≡ Ok own → length_of own ≡ Ok length
    made (Err fault) is h = absurd (cc h)
    made (Ok body) is h =
        let same : parts index (info_of unit) (is_negative length) body ≡ own = cc h in
        subst (λ it. length_of it ≡ Ok length) same (data_read unit index (info_of unit) (data_len width) length body known (some_data width) small is)

-- and so does an added word
pub added_word_read : (width : Width) (index : ℕ) (length : ℤ) (own : Parts) → unsigned_abs length ≤ max_len → added_word width index length ≡ Ok own → length_of own ≡ Ok length
added_word_read width index length own small h = by (unsigned_abs length % step HundredthMm == 0) h
  where
    by : (whole : Bool) → added_in width index length (if whole then HundredthMm else TenMilliFoot) ≡ Ok own → length_of own ≡ Ok length
    by true h = added_in_read width index length HundredthMm own refl small h
    by false h = added_in_read width index length TenMilliFoot own refl small h
