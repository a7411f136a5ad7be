-- The text in metres of a length, and the length that it is read as.
use Rattle.std.proofs.Common.{◌≡◌, ℕ, ℤ, pos, negsuc, ◌+◌, ◌/◌, ◌%◌, ◌^◌, ◌<◌, ◌≤◌, Bool, true, false, ◌&&◌, ◌||◌, ◌==◌, nat_lt, nat_le, not, List, [], ◌∷◌, ◌++◌, length, get_or, take, drop, decimal, unsigned_abs, Some, None, is_some, if◌then◌else◌, Ok, refl, sym, ap, ◌∙◌, arith, length-append, suc, zero}
use Rattle.std.specs.Char.{digit_value}
use Rattle.std.specs.Int.{is_negative}
use Rattle.std.specs.Result.{result_map_both}
use Rattle.std.specs.List.{list_all, position_or_len, after_first}
use Rattle.std.specs.Str.Parse.{AllDigits}
use Rattle.std.proofs.Math.Nat.{pow-suc}
use Rattle.std.proofs.Math.Seq.{take-append_seam, drop-append-add}
use Rattle.std.proofs.lemmas.Bool.Decides.{nat_tests}
use Rattle.std.proofs.lemmas.Fmt.{decimal_is_IsNumeral, length-decimal-le}
use Rattle.std.proofs.lemmas.Int.Digits.{digits_value_push}
use Rattle.std.proofs.lemmas.List.{get_or_append_left}
use Rattle.std.proofs.lemmas.List.Folds.{list_all-append}
use Rattle.std.proofs.lemmas.Str.{digit_value_digit}
use Rattle.std.proofs.lemmas.Str.Parse.{digit_from_value}
use Rattle.th_units.specs.Lengths.{is_digit, are_digits, number, signed}
use Rattle.th_units.specs.Limits.{size_limit}
use Rattle.th_units.specs.Metres.{last_digits, metres, size_in_metres, is_dot, whole, decimals, are_decimals, units_of, size_value, value, has_minus, has_sign, without_sign, metre}
use Rattle.th_units.proofs.Digits.{length-last_digits, list_all-get_or, digit_bounds}

-- a byte from 48 to 57 passes the test for digits
is_digit_from_bounds : (byte : ℕ) → 48 ≤ byte → byte ≤ 57 → is_digit byte ≡ true
is_digit_from_bounds byte low high = grind (arith, nat_tests)

-- the bytes of a numeral are digits
pub list_all-from_AllDigits : (bytes : List ℕ) → AllDigits 10 bytes → list_all is_digit bytes ≡ true
list_all-from_AllDigits [] h = refl
list_all-from_AllDigits (byte ∷ bytes) h =
    let bounds = digit_from_value byte h.0 in
    ap (λ b. b && list_all is_digit bytes) (is_digit_from_bounds byte bounds.0 bounds.1) ∙ list_all-from_AllDigits bytes h.1

-- bytes that are there and are digits
are_digits-from_all : (bytes : List ℕ) → 0 < length bytes → list_all is_digit bytes ≡ true → are_digits bytes ≡ true
are_digits-from_all bytes some all =
    let there : nat_lt 0 (length bytes) ≡ true = grind (arith, nat_tests) in
    ap (λ b. b && list_all is_digit bytes) there ∙ all

-- the last digits of a number are digits
last_digits_are : (count n : ℕ) → list_all is_digit (last_digits count n) ≡ true
unfolding last_digits
last_digits_are zero n = refl
last_digits_are (suc count) n =
    let digit : is_digit (48 + n % 10) ≡ true = is_digit_from_bounds (48 + n % 10) (omega arith) (omega arith) in
    list_all-append is_digit (last_digits count (n / 10)) ((48 + n % 10) ∷ [])
    ∙ ap (λ b. b && (is_digit (48 + n % 10) && true)) (last_digits_are count (n / 10))
    ∙ ap (λ b. b && true) digit

-- so many last digits of a number that has no more write that number
number-last_digits : (count n : ℕ) → n < 10 ^ count → number (last_digits count n) ≡ n
unfolding last_digits
number-last_digits zero n small = omega arith
number-last_digits (suc count) n small =
    let front : number (last_digits count (n / 10)) ≡ n / 10 = number-last_digits count (n / 10) (omega (arith, pow-suc 10 count)) in
    let digit : digit_value (48 + n % 10) + 48 ≡ 48 + n % 10 = digit_value_digit (48 + n % 10) (omega arith, omega arith) in
    omega (arith, digits_value_push 10 (last_digits count (n / 10)) (48 + n % 10), front, digit)

-- a digit is no dot
digit_no_dot : (byte : ℕ) → is_digit byte ≡ true → is_dot byte ≡ false
digit_no_dot byte h = grind (arith, nat_tests)

-- digits hold no dot
digits_no_dot : (digits rest : List ℕ) → list_all is_digit digits ≡ true → position_or_len is_dot (digits ++ 46 ∷ rest) ≡ length digits
digits_no_dot [] rest h = refl
digits_no_dot (byte ∷ digits) rest h =
    let first : is_digit byte ≡ true = list_all-get_or is_digit (byte ∷ digits) 0 (omega arith) h in
    let others : list_all is_digit digits ≡ true = sym (ap (λ b. b && list_all is_digit digits) first) ∙ h in
    let more : position_or_len is_dot (digits ++ 46 ∷ rest) ≡ length digits = digits_no_dot digits rest others in
    ap (λ b. if not b then 1 + position_or_len is_dot (digits ++ 46 ∷ rest) else 0) (digit_no_dot byte first) ∙ (omega (arith, more))

-- the parts of digits, a dot and what follows
whole_decimals : (digits rest : List ℕ) → list_all is_digit digits ≡ true
    → (whole (digits ++ 46 ∷ rest) ≡ digits) × (decimals (digits ++ 46 ∷ rest) ≡ Some rest)
whole_decimals digits rest h =
    let text = digits ++ 46 ∷ rest in
    let dot : position_or_len is_dot text ≡ length digits = digits_no_dot digits rest h in
    let within : nat_lt (position_or_len is_dot text) (length text) ≡ true =
    rw dot (let longer : length text ≡ length digits + length (46 ∷ rest) = length-append digits (46 ∷ rest) in grind (arith, nat_tests)) in (
      ap (λ n. take n text) dot ∙ take-append_seam digits (46 ∷ rest),
      ap (λ b. if is_some (if b then Some (position_or_len is_dot text) else None) then Some (after_first is_dot text) else None) within
          ∙ ap (λ n. Some (drop (n + 1) text)) dot
          ∙ ap Some (drop-append-add digits (46 ∷ rest) 1),
    )

-- a text whose parts are digits in number is read as their size
size_value-parts : (text digits places : List ℕ) → whole text ≡ digits → decimals text ≡ Some places → are_digits digits ≡ true → are_decimals places ≡ true
    → length digits ≤ 9 → size_value text ≡ Ok (units_of digits places)
size_value-parts text digits places first second digits_are places_are short =
    let fits : nat_lt 9 (length digits) ≡ false = grind (arith, nat_tests) in
    rw (first, second, digits_are, places_are, fits) refl

-- a size in metres is read as that size
size_value-size_in_metres : (size : ℕ) → size < size_limit → size_value (size_in_metres size) ≡ Ok size
size_value-size_in_metres size small =
    let digits = decimal (size / metre) in
    let places = last_digits 8 (size % metre) in
    let numeral = decimal_is_IsNumeral (size / metre) (omega arith) in
    let all : list_all is_digit digits ≡ true = list_all-from_AllDigits digits numeral.0.1 in
    let parts = whole_decimals digits places all in
    let long : length places ≡ 8 = length-last_digits 8 (size % metre) in
    let short : length digits ≤ 9 = length-decimal-le 9 (size / metre) (omega arith) (omega arith) (omega arith) in
    let eight : nat_le (length places) 8 ≡ true = grind (arith, nat_tests) in
    let places_are : are_decimals places ≡ true =
    ap (λ b. b && nat_le (length places) 8) (are_digits-from_all places (omega arith) (last_digits_are 8 (size % metre))) ∙ eight in
    let metres_are : number digits ≡ size / metre = numeral.1 in
    let decimals_are : number places ≡ size % metre = number-last_digits 8 (size % metre) (omega arith) in
    size_value-parts (size_in_metres size) digits places parts.0 parts.1 (are_digits-from_all digits numeral.0.0 all) places_are short
    ∙ ap Ok (rw (metres_are, decimals_are, long) (omega arith))

-- a text of a sign and a size in metres
value-parts : (text : List ℕ) (negative : Bool) (size : ℕ) → has_minus text ≡ negative → size_value (without_sign text) ≡ Ok size → value text ≡ Ok (signed negative size)
value-parts text negative size minus sized =
    ap (λ read. result_map_both (signed (has_minus text)) (λ fault. fault) read) sized ∙ ap (λ b. Ok (signed b size)) minus

not_negative : (n : ℕ) → is_negative (pos n) ≡ false
not_negative n = grind (arith, nat_tests)

-- a size in metres begins with a digit, which is no sign
no_sign : (size : ℕ) → size < size_limit → (has_minus (size_in_metres size) ≡ false) × (without_sign (size_in_metres size) ≡ size_in_metres size)
no_sign size small =
    let digits = decimal (size / metre) in
    let text = size_in_metres size in
    let numeral = decimal_is_IsNumeral (size / metre) (omega arith) in
    let all : list_all is_digit digits ≡ true = list_all-from_AllDigits digits numeral.0.1 in
    let first : get_or text 0 0 ≡ get_or digits 0 0 = get_or_append_left digits (46 ∷ last_digits 8 (size % metre)) 0 0 numeral.0.0 in
    let bounds = digit_bounds (get_or digits 0 0) (list_all-get_or is_digit digits 0 numeral.0.0 all) in
    let no_minus : has_minus text ≡ false = rw first (grind (arith, nat_tests)) in
    let no_plus : (get_or text 0 0 == 43) ≡ false = rw first (grind (arith, nat_tests)) in
    let none : has_sign text ≡ false = ap (λ b. b || has_minus text) no_plus ∙ no_minus in
    (no_minus, ap (λ b. drop (if b then 1 else 0) text) none)

-- the text of a length is read as that length
pub value-metres : (units : ℤ) → unsigned_abs units < size_limit → value (metres units) ≡ Ok units
value-metres (pos n) small =
    ap (λ b. value (if b then 45 ∷ size_in_metres n else size_in_metres n)) (not_negative n)
    ∙ value-parts (size_in_metres n) false n (no_sign n small).0 (ap size_value (no_sign n small).1 ∙ size_value-size_in_metres n small)
value-metres (negsuc n) small = value-parts (45 ∷ size_in_metres (suc n)) true (suc n) refl (size_value-size_in_metres (suc n) small)
