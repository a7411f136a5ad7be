-- Numbers that are written are read again.
use Rattle.std.proofs.Common.{◌≡◌, ◌<◌, ◌≤◌, ◌^◌, ℕ, ℤ, pos, negsuc, ◌&&◌, ◌||◌, ◌==◌, Bool, true, false, if◌then◌else◌, List, ◌∷◌, length, get_or, drop, decimal, Ok, Err, nat_le, nat_lt, unsigned_abs, suc, refl, ap, ◌∙◌, arith}
use Rattle.std.specs.Fmt.{signed_decimal}
use Rattle.std.specs.List.{list_all}
use Rattle.std.proofs.lemmas.Bool.Decides.{nat_tests}
use Rattle.std.proofs.lemmas.Fmt.{decimal_is_IsNumeral_wide, length-decimal-le_wide}
use Rattle.th_units.specs.Lengths.{are_digits, is_digit, number, signed}
use Rattle.th_units.specs.Metres.{has_minus, metres, without_sign}
use Rattle.th_units.proofs.Digits.{digit_bounds, list_all-get_or}
use Rattle.th_units.proofs.MetreTexts.{list_all-from_AllDigits, value-metres}
use Rattle.th_certificate.specs.Certified.{cost_limit}
use Rattle.th_network.specs.Limits.{height_limit}
use Rattle.th_certificate.specs.Numbers.{cost_in, count_in, flow_in, height_from, height_in, writes}
use Rattle.th_certificate.specs.Limits.{max_cost_digits, max_digits, max_flows}
use Rattle.th_certificate.specs.declared.faults.CertKind.TheVariants.{BadNumber, TooLarge}
use Rattle.th_tables.specs.Limits.{max_weight}

-- the digits of a number
pub record IsWritten (n most : ℕ) (text : List ℕ) : Type 0 where
  pub some : 0 < length text
  pub digits : list_all is_digit text ≡ true
  pub are : are_digits text ≡ true
  pub short : length text ≤ most
  pub value : number text ≡ n

pub decimal_written : (n most : ℕ) → 0 < most → most ≤ 60 → n < 10 ^ most → n < 10 ^ 64 → IsWritten n most (decimal n)
decimal_written n most some few small fits =
    let numeral = decimal_is_IsNumeral_wide n fits in
    let there : nat_lt 0 (length (decimal n)) ≡ true = let h = numeral.0.0 in grind (arith, nat_tests) in
    let digits = list_all-from_AllDigits (decimal n) numeral.0.1 in
    record {
      some = numeral.0.0;
      digits = digits;
      are = ap (λ b. b && list_all is_digit (decimal n)) there ∙ digits;
      short = length-decimal-le_wide most n some small fits;
      value = numeral.1;
    }

-- the tests that a short number passes
short_test : (text : List ℕ) (most : ℕ) → length text ≤ most → nat_le (length text) most ≡ true
short_test text most short = grind (arith, nat_tests)

pub same_test : (m n : ℕ) → m ≡ n → (m == n) ≡ true
same_test m n same = grind (arith, nat_tests)

pub count_in-decimal : (n : ℕ) → n ≤ max_flows → count_in (decimal n) ≡ Ok n
count_in-decimal n few =
    let written = decimal_written n max_digits (omega arith) (omega arith) (omega arith) (omega arith) in
    let within : nat_le (number (decimal n)) max_flows ≡ true = let value = written.value in grind (arith, nat_tests) in
    ap (λ form. if form then (if nat_le (length (decimal n)) max_digits && nat_le (number (decimal n)) max_flows then Ok (number (decimal n)) else Err TooLarge) else Err BadNumber) written.are
    ∙ ap (λ short. if short && nat_le (number (decimal n)) max_flows then Ok (number (decimal n)) else Err TooLarge) (short_test (decimal n) max_digits written.short)
    ∙ ap (λ short. if short then Ok (number (decimal n)) else Err TooLarge) within
    ∙ ap Ok written.value

pub cost_in-decimal : (n : ℕ) → n < cost_limit → cost_in (decimal n) ≡ Ok n
cost_in-decimal n small =
    let written = decimal_written n max_cost_digits (omega arith) (omega arith) (omega arith) (omega arith) in
    ap (λ form. if form then (if nat_le (length (decimal n)) max_cost_digits then Ok (number (decimal n)) else Err TooLarge) else Err BadNumber) written.are
    ∙ ap (λ short. if short then Ok (number (decimal n)) else Err TooLarge) (short_test (decimal n) max_cost_digits written.short)
    ∙ ap Ok written.value

-- digits have no sign
unsigned : (text : List ℕ) → 0 < length text → list_all is_digit text ≡ true → (has_minus text ≡ false) × (without_sign text ≡ text)
unsigned text some digits =
    let bounds = digit_bounds (get_or text 0 0) (list_all-get_or is_digit text 0 some digits) in
    let low = bounds.0 in
    let no_plus : (get_or text 0 0 == 43) ≡ false = grind (arith, nat_tests) in
    let no_minus : has_minus text ≡ false = grind (arith, nat_tests) in (
      no_minus,
      ap (λ b. drop (if b || has_minus text then 1 else 0) text) no_plus ∙ ap (λ b. drop (if b then 1 else 0) text) no_minus,
    )

-- a flow whose size is written
flow_written : (place : ℕ) (key field digits : List ℕ) (negative : Bool) (size : ℕ) → IsWritten place max_digits key → IsWritten size max_digits digits → has_minus field ≡ negative → without_sign field ≡ digits → flow_in place key field ≡ Ok (signed negative size)
flow_written place key field digits negative size key_is digits_are minus bare =
    let same : writes key place ≡ true = ap (λ b. b && (number key == place)) key_is.are ∙ same_test (number key) place key_is.value in
    ap (λ (bare : List ℕ). if writes key place && are_digits bare then (if nat_le (length key) max_digits && nat_le (length bare) max_digits then Ok (signed (has_minus field) (number bare)) else Err TooLarge) else Err BadNumber) bare
    ∙ ap (λ form. if form && are_digits digits then (if nat_le (length key) max_digits && nat_le (length digits) max_digits then Ok (signed (has_minus field) (number digits)) else Err TooLarge) else Err BadNumber) same
    ∙ ap (λ form. if form then (if nat_le (length key) max_digits && nat_le (length digits) max_digits then Ok (signed (has_minus field) (number digits)) else Err TooLarge) else Err BadNumber) digits_are.are
    ∙ ap (λ short. if short && nat_le (length digits) max_digits then Ok (signed (has_minus field) (number digits)) else Err TooLarge) (short_test key max_digits key_is.short)
    ∙ ap (λ short. if short then Ok (signed (has_minus field) (number digits)) else Err TooLarge) (short_test digits max_digits digits_are.short)
    ∙ ap (λ negative. Ok (signed negative (number digits))) minus
    ∙ ap (λ size. Ok (signed negative size)) digits_are.value

pub flow_in-decimal : (place : ℕ) (flow : ℤ) → place ≤ max_flows → unsigned_abs flow ≤ max_weight → flow_in place (decimal place) (signed_decimal flow) ≡ Ok flow
flow_in-decimal place (pos size) few small =
    let key = decimal_written place max_digits (omega arith) (omega arith) (omega arith) (omega arith) in
    let digits = decimal_written size max_digits (omega arith) (omega arith) (omega arith) (omega arith) in
    let plain = unsigned (decimal size) digits.some digits.digits in
    flow_written place (decimal place) (decimal size) (decimal size) false size key digits plain.0 plain.1
flow_in-decimal place (negsuc size) few small =
    let key = decimal_written place max_digits (omega arith) (omega arith) (omega arith) (omega arith) in
    let digits = decimal_written (suc size) max_digits (omega arith) (omega arith) (omega arith) (omega arith) in
    flow_written place (decimal place) (45 ∷ decimal (suc size)) (decimal (suc size)) true (suc size) key digits refl refl

pub height_in-metres : (height : ℤ) → unsigned_abs height < height_limit → height_in (metres height) ≡ Ok height
height_in-metres height small = ap height_from (value-metres height small)
