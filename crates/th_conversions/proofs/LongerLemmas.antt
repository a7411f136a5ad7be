-- The words of a height sight as they are read: with its word 33, and with the heights that run.
use Rattle.std.proofs.Common.{◌≡◌, ◌<◌, ◌≤◌, ◌+◌, ◌*◌, ◌/◌, ◌%◌, ◌^◌, ◌==◌, ◌&&◌, ◌||◌, ℕ, ℤ, zero, suc, pos, negsuc, Bool, true, false, not, List, [], ◌∷◌, ◌++◌, Option, Some, None, Ok, Err, if◌then◌else◌, length, nat_le, nat_lt, unsigned_abs, ◌⊎◌, inl, inr, refl, sym, subst, ap, ◌∙◌, arith, append_assoc}
use Rattle.std.specs.Int.{is_negative}
use Rattle.std.specs.List.{find, list_all}
use Rattle.std.specs.Prelude.{option_and_then, slice_index}
use Rattle.std.specs.Option.{option_or}
use Rattle.std.specs.Result.{result_map_both, result_ok}
use Rattle.std.proofs.Math.Nat.{pow-suc}
use Rattle.std.proofs.lemmas.Bool.{false≢true}
use Rattle.std.proofs.lemmas.Bool.Decides.{nat_tests}
use Rattle.std.proofs.lemmas.Int.Digits.{digits_value_push}
use Rattle.std.proofs.lemmas.List.Folds.{find-append, list_any-append}
use Rattle.std.proofs.lemmas.Str.{digit_value_digit}
use Rattle.std.specs.Char.{digit_value}
use Rattle.th_units.specs.Lengths.{are_digits, is_digit, number, signed}
use Rattle.th_units.specs.Limits.{max_len}
use Rattle.th_units.specs.Metres.{last_digits}
use Rattle.th_units.specs.Units.{step, unit_of}
use Rattle.th_units.specs.declared.faults.LenFault.TheVariants as len_fault
use Rattle.th_units.specs.declared.units.Unit.{Unit}
use Rattle.th_units.specs.declared.units.Unit.TheVariants.{Mm, MilliFoot, TenthMm, TenMilliFoot, HundredthMm}
use Rattle.gsi_word.specs.Values.{in_unit, length_fault, length_of}
use Rattle.gsi_word.specs.Words.{Parts, data_len, parts}
use Rattle.gsi_word.specs.declared.faults.LengthFault.TheVariants.{BadNumber}
use Rattle.gsi_word.specs.declared.words.Width.{Width}
use Rattle.gsi_word.specs.declared.words.Width.TheVariants.{Eight, Sixteen}
use Rattle.gsi_block.specs.Blocks.{BlockParts}
use Rattle.th_book.specs.Books.{known}
use Rattle.th_book.specs.Due.{latest}
use Rattle.th_book.specs.Lines.{counts_for, holds, is_sight, length_in}
use Rattle.th_columns.proofs.DigitLemmas.{last_digits-all}
use Rattle.th_conversions.specs.Printed.{longer}
use Rattle.th_mend.specs.NewWords.{info_of}
use Rattle.th_conversions.specs.Words.{Written, number_of, word_of, zero_height, zero_unless}
use Rattle.th_conversions.specs.declared.running.Running.{Running}
use Rattle.th_conversions.proofs.HeightWordLemmas.{length-digits}

-- ---- which words count

counted : (unit : Unit) (i j : ℕ) (negative : Bool) (body : List ℕ) → counts_for i (parts j (info_of unit) negative body) ≡ (j == i)
counted Mm i j negative body = refl
counted MilliFoot i j negative body = refl
counted TenthMm i j negative body = refl
counted TenMilliFoot i j negative body = refl
counted HundredthMm i j negative body = refl

-- a word that a height sight gets counts for its own index alone
counts_written : (width : Width) (i j : ℕ) (own : Written) → counts_for i (word_of width j own) ≡ (j == i)
counts_written width i j own = counted own.unit i j (is_negative own.length) (last_digits (data_len width) (number_of own))

or_true : (b : Bool) → (b || true) ≡ true
or_true true = refl
or_true false = refl

-- no word that counts is found
none_found : (i : ℕ) (words : List Parts) → holds i words ≡ false → find (counts_for i) words ≡ None
none_found i [] none = refl
none_found i (word ∷ words) none = by (counts_for i word) refl (λ later. none_found i words later)
  where
    by : (counts : Bool) → counts_for i word ≡ counts → (holds i words ≡ false → find (counts_for i) words ≡ None) → find (counts_for i) (word ∷ words) ≡ None
    by true e later = absurd (false≢true (sym none ∙ ap (λ b. b || holds i words) e))
    by false e later = rw e (later (ap (λ b. b || holds i words) (sym e) ∙ none))

-- the first that counts is found
some_found : (i : ℕ) (words : List Parts) → holds i words ≡ true → (word : Parts) × (find (counts_for i) words ≡ Some word)
some_found i [] some = absurd (false≢true some)
some_found i (word ∷ words) some = by (counts_for i word) refl (λ later. some_found i words later)
  where
    by : (counts : Bool) → counts_for i word ≡ counts → (holds i words ≡ true → (first : Parts) × (find (counts_for i) words ≡ Some first))
        → (first : Parts) × (find (counts_for i) (word ∷ words) ≡ Some first)
    by true e later = (word, ap (λ (b : Bool). if b then Some word else find (counts_for i) words) e)
    by false e later =
        let behind = later (ap (λ b. b || holds i words) (sym e) ∙ some) in
        (behind.0, ap (λ (b : Bool). if b then Some word else find (counts_for i) words) e ∙ behind.1)

-- the first word of two lists that counts
length_in-front : (i : ℕ) (front back : List Parts) → holds i front ≡ true → length_in i (front ++ back) ≡ length_in i front
length_in-front i front back some =
    let first = some_found i front some in
    let found : find (counts_for i) (front ++ back) ≡ find (counts_for i) front =
    find-append (counts_for i) front back ∙ ap (λ (o : Option Parts). option_or o (find (counts_for i) back)) first.1 ∙ sym first.1 in
    ap (option_and_then (λ word. result_ok (length_of word))) found

length_in-back : (i : ℕ) (front back : List Parts) → holds i front ≡ false → length_in i (front ++ back) ≡ length_in i back
length_in-back i front back none =
    let found : find (counts_for i) (front ++ back) ≡ find (counts_for i) back =
    find-append (counts_for i) front back ∙ ap (λ (o : Option Parts). option_or o (find (counts_for i) back)) (none_found i front none) in
    ap (option_and_then (λ word. result_ok (length_of word))) found

-- a height after two lists of words: the front comes first
latest-front : (i : ℕ) (front back : List Parts) (before : Option ℤ) → holds i front ≡ true → latest i (front ++ back) before ≡ length_in i front
latest-front i front back before some =
    let here : holds i (front ++ back) ≡ true = list_any-append (counts_for i) front back ∙ ap (λ b. b || holds i back) some in
    ap (λ b. if b then length_in i (front ++ back) else before) here ∙ length_in-front i front back some

latest-back : (i : ℕ) (front back : List Parts) (before : Option ℤ) → holds i front ≡ false → latest i (front ++ back) before ≡ latest i back before
latest-back i front back before none =
    let here : holds i (front ++ back) ≡ holds i back = list_any-append (counts_for i) front back ∙ ap (λ b. b || holds i back) none in
    ap (λ b. if b then length_in i (front ++ back) else before) here
    ∙ ap (λ (own : Option ℤ). if holds i back then own else before) (length_in-back i front back none)

-- ---- the length that a word writes

digit_is : (digit : ℕ) → digit < 10 → is_digit (48 + digit) ≡ true
digit_is digit small = grind (arith, nat_tests)

number-last_digits : (count n : ℕ) → n < 10 ^ count → number (last_digits count n) ≡ n
unfolding last_digits
number-last_digits zero n small = omega arith
number-last_digits (suc count) n small =
    let front : number (last_digits count (n / 10)) ≡ n / 10 = number-last_digits count (n / 10) (omega (arith, pow-suc 10 count)) in
    let digit : digit_value (48 + n % 10) + 48 ≡ 48 + n % 10 = digit_value_digit (48 + n % 10) (omega arith, omega arith) in
    omega (arith, digits_value_push 10 (last_digits count (n / 10)) (48 + n % 10), front, digit)

digits_are : (width : Width) (n : ℕ) → are_digits (last_digits (data_len width) n) ≡ true
digits_are Eight n =
    let some : nat_lt 0 (length (last_digits 8 n)) ≡ true = rw (length-digits 8 n) refl in
    ap (λ b. b && list_all is_digit (last_digits 8 n)) some ∙ last_digits-all is_digit digit_is 8 n
digits_are Sixteen n =
    let some : nat_lt 0 (length (last_digits 16 n)) ≡ true = rw (length-digits 16 n) refl in
    ap (λ b. b && list_all is_digit (last_digits 16 n)) some ∙ last_digits-all is_digit digit_is 16 n

not_negative : (n : ℕ) → is_negative (pos n) ≡ false
not_negative n = grind (arith, nat_tests)

signed_back : (length : ℤ) → signed (is_negative length) (unsigned_abs length) ≡ length
signed_back (pos n) = ap (λ b. signed b n) (not_negative n)
signed_back (negsuc n) = refl

-- a length that a word of this width can write: in 1/100 mm or in 1/10,000 ft, of which it is a whole number
pub record CanBeWritten (width : Width) (own : Written) : Type 0 where
  pub unit : (own.unit ≡ HundredthMm) ⊎ (own.unit ≡ TenMilliFoot)
  pub small : unsigned_abs own.length ≤ max_len
  pub whole : number_of own * step own.unit ≡ unsigned_abs own.length
  pub room : number_of own < 10 ^ data_len width

-- the unit of what is written is told by its information
unit_back : (unit : Unit) → (unit ≡ HundredthMm) ⊎ (unit ≡ TenMilliFoot) → unit_of (slice_index (info_of unit) 3) ≡ Some unit
unit_back unit (inl e) = subst (λ (u : Unit). unit_of (slice_index (info_of u) 3) ≡ Some u) (sym e) refl
unit_back unit (inr e) = subst (λ (u : Unit). unit_of (slice_index (info_of u) 3) ≡ Some u) (sym e) refl

read_in : (unit : Unit) (index : ℕ) (negative : Bool) (body : List ℕ) (size : ℕ) → (unit ≡ HundredthMm) ⊎ (unit ≡ TenMilliFoot) → are_digits body ≡ true
    → number body * step unit ≡ size → size ≤ max_len → length_of (parts index (info_of unit) negative body) ≡ Ok (signed negative size)
read_in unit index negative body size known_unit digits is small =
    let within : nat_le size max_len ≡ true = grind (arith, nat_tests) in
    let fits : nat_le (number body * step unit) max_len ≡ true = ap (λ (n : ℕ). nat_le n max_len) is ∙ within in
    ap (λ (b : Bool). if not b then Err BadNumber else in_unit (parts index (info_of unit) negative body) (unit_of (slice_index (info_of unit) 3))) digits
    ∙ ap (in_unit (parts index (info_of unit) negative body)) (unit_back unit known_unit)
    ∙ ap (λ (b : Bool). result_map_both (λ (length : ℤ). length) length_fault (if b then (if nat_le (number body * step unit) max_len then Ok (signed negative (number body * step unit)) else Err len_fault.TooLarge) else Err len_fault.NotDigits)) digits
    ∙ ap (λ (b : Bool). result_map_both (λ (length : ℤ). length) length_fault (if b then Ok (signed negative (number body * step unit)) else Err len_fault.TooLarge)) fits
    ∙ ap (λ (n : ℕ). Ok (signed negative n)) is

-- what is written is read
pub written_read : (width : Width) (index : ℕ) (own : Written) → CanBeWritten width own → length_of (word_of width index own) ≡ Ok own.length
written_read width index own can =
    let body = last_digits (data_len width) (number_of own) in
    let same : number body * step own.unit ≡ unsigned_abs own.length =
    ap (λ n. n * step own.unit) (number-last_digits (data_len width) (number_of own) can.room) ∙ can.whole in
    read_in own.unit index (is_negative own.length) body (unsigned_abs own.length) can.unit (digits_are width (number_of own)) same can.small
    ∙ ap Ok (signed_back own.length)

zero_room : (width : Width) → 0 < 10 ^ data_len width
zero_room Eight = omega arith
zero_room Sixteen = omega arith

zero_can : (width : Width) → CanBeWritten width zero_height
zero_can width = record { unit = inl refl; small = omega arith; whole = refl; room = zero_room width }

-- ---- the words of a height sight

-- a height of zero counts for its own index alone
holds_zero : (width : Width) (i j : ℕ) (height : Option ℤ) → (j == i) ≡ false → holds i (zero_unless width j height) ≡ false
holds_zero width i j (Some height) other = refl
holds_zero width i j None other = ap (λ b. b || false) (counts_written width i j zero_height ∙ other)

holds_one : (width : Width) (i j : ℕ) (own : Written) (is : Bool) → (j == i) ≡ is → holds i (word_of width j own ∷ []) ≡ (is || false)
holds_one width i j own is e = ap (λ b. b || false) (counts_written width i j own ∙ e)

length_in-one : (width : Width) (i : ℕ) (own : Written) → (i == i) ≡ true → CanBeWritten width own → length_in i (word_of width i own ∷ []) ≡ Some own.length
length_in-one width i own same can =
    rw (counts_written width i i own ∙ same) (ap result_ok (written_read width i own can))

latest-none : (i : ℕ) (words : List Parts) (before : Option ℤ) → holds i words ≡ false → latest i words before ≡ before
latest-none i words before none = ap (λ b. if b then length_in i words else before) none

-- a height of zero where none runs, and no other behind it
zero_then : (width : Width) (i : ℕ) (before height : Option ℤ) (rest : List Parts) → (i == i) ≡ true → holds i rest ≡ false → height ≡ before
    → known (latest i (zero_unless width i height ++ rest) before) ≡ known height
zero_then width i before (Some height) rest same none is = ap known (latest-none i rest before none ∙ sym is)
zero_then width i before None rest same none is =
    ap known (latest-front i (word_of width i zero_height ∷ []) rest before (holds_one width i i zero_height true same) ∙ length_in-one width i zero_height same (zero_can width))

module _ (block : BlockParts) (heights : Running) (written : Written) where
  abbrev zero_instrument : List Parts
  zero_instrument = zero_unless block.width 88 heights.instrument

  abbrev zero_reflector : List Parts
  zero_reflector = zero_unless block.width 87 heights.reflector

  abbrev last : List Parts
  last = word_of block.width 33 written ∷ []

  grouped : longer block heights written ≡ block.words ++ (zero_instrument ++ (zero_reflector ++ last))
  grouped = append_assoc (block.words ++ zero_instrument) zero_reflector last ∙ append_assoc block.words zero_instrument (zero_reflector ++ last)

  -- it is a sight
  pub longer_sight : is_sight (longer block heights written) ≡ true
  longer_sight =
      ap (holds 33) grouped
      ∙ list_any-append (counts_for 33) block.words (zero_instrument ++ (zero_reflector ++ last))
      ∙ ap (λ b. holds 33 block.words || b)
      (list_any-append (counts_for 33) zero_instrument (zero_reflector ++ last)
      ∙ ap (λ b. b || holds 33 (zero_reflector ++ last)) (holds_zero block.width 33 88 heights.instrument refl)
      ∙ list_any-append (counts_for 33) zero_reflector last
      ∙ ap (λ b. b || holds 33 last) (holds_zero block.width 33 87 heights.reflector refl)
      ∙ holds_one block.width 33 33 written true refl)
      ∙ or_true (holds 33 block.words)

  -- whose word 33 is the one that it got
  pub longer_difference : is_sight block.words ≡ false → CanBeWritten block.width written → length_in 33 (longer block heights written) ≡ Some written.length
  longer_difference none can =
      ap (length_in 33) grouped
      ∙ length_in-back 33 block.words (zero_instrument ++ (zero_reflector ++ last)) none
      ∙ length_in-back 33 zero_instrument (zero_reflector ++ last) (holds_zero block.width 33 88 heights.instrument refl)
      ∙ length_in-back 33 zero_reflector last (holds_zero block.width 33 87 heights.reflector refl)
      ∙ length_in-one block.width 33 written refl can

  -- the instrument's height is the one that runs, zero where none does
  pub longer_instrument : (before : Option ℤ) → heights.instrument ≡ latest 88 block.words before
      → known (latest 88 (longer block heights written) before) ≡ known heights.instrument
  longer_instrument before is = ap (λ words. known (latest 88 words before)) grouped ∙ by (holds 88 block.words) refl
    where
      by : (here : Bool) → holds 88 block.words ≡ here
          → known (latest 88 (block.words ++ (zero_instrument ++ (zero_reflector ++ last))) before) ≡ known heights.instrument
      by true e =
          ap known (latest-front 88 block.words (zero_instrument ++ (zero_reflector ++ last)) before e
          ∙ sym (ap (λ b. if b then length_in 88 block.words else before) e) ∙ sym is)
      by false e =
          ap known (latest-back 88 block.words (zero_instrument ++ (zero_reflector ++ last)) before e)
          ∙ zero_then block.width 88 before heights.instrument (zero_reflector ++ last) refl
          (list_any-append (counts_for 88) zero_reflector last ∙ ap (λ b. b || holds 88 last) (holds_zero block.width 88 87 heights.reflector refl) ∙ holds_one block.width 88 33 written false refl)
          (is ∙ latest-none 88 block.words before e)

  -- and so is the reflector's
  pub longer_reflector : (before : Option ℤ) → heights.reflector ≡ latest 87 block.words before
      → known (latest 87 (longer block heights written) before) ≡ known heights.reflector
  longer_reflector before is = ap (λ words. known (latest 87 words before)) grouped ∙ by (holds 87 block.words) refl
    where
      by : (here : Bool) → holds 87 block.words ≡ here
          → known (latest 87 (block.words ++ (zero_instrument ++ (zero_reflector ++ last))) before) ≡ known heights.reflector
      by true e =
          ap known (latest-front 87 block.words (zero_instrument ++ (zero_reflector ++ last)) before e
          ∙ sym (ap (λ b. if b then length_in 87 block.words else before) e) ∙ sym is)
      by false e =
          ap known (latest-back 87 block.words (zero_instrument ++ (zero_reflector ++ last)) before e
          ∙ latest-back 87 zero_instrument (zero_reflector ++ last) before (holds_zero block.width 87 88 heights.instrument refl))
          ∙ zero_then block.width 87 before heights.reflector last refl (holds_one block.width 87 33 written false refl)
          (is ∙ latest-none 87 block.words before e)
