-- The numbers that fields have, and how large they are.
use Rattle.std.proofs.Common.{◌≡◌, ◌<◌, ◌≤◌, ◌+◌, ◌-◌, ◌*◌, ◌^◌, ℕ, ℤ, ◌&&◌, ◌==◌, not, Bool, true, false, if◌then◌else◌, List, [], length, min, Option, Some, None, Result, Ok, Err, nat_le, nat_lt, unsigned_abs, unwrap_or, suc, zero, refl, sym, ap, subst, ◌∙◌, arith}
use Rattle.std.proofs.Math.Nat.{one-le-pow, mul-lt-mul_of_pos_right}
use Rattle.std.proofs.lemmas.Bool.Decides.{nat_tests}
use Rattle.std.proofs.lemmas.Nat.{pow-add}
use Rattle.std.specs.List.{list_all}
use Rattle.std.specs.Option.{option_map_or}
use Rattle.std.specs.Result.{result_map_both}
use Rattle.th_certificate.specs.Limits.{max_cost_digits, max_digits}
use Rattle.th_units.specs.Lengths.{are_digits, is_digit, number, signed}
use Rattle.th_units.specs.Metres.{are_decimals, decimals, has_minus, is_in_metres, size_value, units_of, whole, without_sign}
use Rattle.th_units.specs.declared.faults.LenFault.{LenFault}
use Rattle.th_units.specs.declared.faults.LenFault.TheVariants.{NotDigits, TooLarge as LongMetres}
use Rattle.th_units.proofs.Digits.{all_digits, number-lt, number_below}
use Rattle.th_certificate.specs.Certified.{cost_limit, flow_limit}
use Rattle.th_network.specs.Limits.{height_limit}
use Rattle.th_certificate.specs.Numbers.{cost_in, flow_in, height_from, height_in, writes}
use Rattle.th_certificate.specs.declared.faults.CertKind.{CertKind}
use Rattle.th_certificate.specs.declared.faults.CertKind.TheVariants.{BadNumber, TooLarge}

-- both of two tests
pub first_of : (a b : Bool) → (a && b) ≡ true → a ≡ true
first_of true b h = refl
first_of false b h = cc h

pub second_of : (a b : Bool) → (a && b) ≡ true → b ≡ true
second_of true b h = h
second_of false b h = cc h

-- a number with its sign is as large as without
abs_signed : (negative : Bool) (size : ℕ) → unsigned_abs (signed negative size) ≡ size
abs_signed true zero = refl
abs_signed true (suc size) = refl
abs_signed false size = refl

-- a number of some digits, filled up to eight, is below a metre
filled : (n count : ℕ) → n < 10 ^ count → count ≤ 8 → n * 10 ^ (8 - count) < 10 ^ 8
filled n count small short =
    let places : count + (8 - count) ≡ 8 = omega arith in
    let all : 10 ^ count * 10 ^ (8 - count) ≡ 10 ^ 8 = sym (pow-add 10 count (8 - count)) ∙ ap (λ n. 10 ^ n) places in
    subst (λ bound. n * 10 ^ (8 - count) < bound) all (mul-lt-mul_of_pos_right small (one-le-pow (8 - count) 10 (omega arith)))

-- whole metres of at most nine digits and at most eight decimals
units_small : (digits places : List ℕ) → list_all is_digit digits ≡ true → length digits ≤ 9 → list_all is_digit places ≡ true → length places ≤ 8 → units_of digits places < height_limit
units_small digits places a short b few =
    omega (arith, number_below digits 9 a short, filled (number places) (length places) (number-lt places b) few)

-- the decimals of a text in metres
decimals_small : (text : List ℕ) (found : Option (List ℕ)) → option_map_or are_decimals found true ≡ true → (list_all is_digit (unwrap_or found []) ≡ true) × (length (unwrap_or found []) ≤ 8)
decimals_small text None h = (refl, omega arith)
decimals_small text (Some places) h = (
  all_digits places (first_of (are_digits places) (nat_le (length places) 8) h),
  (let short : nat_le (length places) 8 ≡ true = second_of (are_digits places) (nat_le (length places) 8) h in grind (arith, nat_tests)),
)

-- a size in metres is in its range
size_small : (text : List ℕ) (size : ℕ) → size_value text ≡ Ok size → size < height_limit
size_small text size h = by (is_in_metres text) (nat_lt 9 (length (whole text))) refl refl h
  where
    by : (form long : Bool) → is_in_metres text ≡ form → nat_lt 9 (length (whole text)) ≡ long
        → (if not form then Err NotDigits else (if long then Err LongMetres else Ok (units_of (whole text) (unwrap_or (decimals text) [])))) ≡ Ok size → size < height_limit
    by false long is is' h = cc h
    by true true is is' h = cc h
    by true false is is' h =
        let same : units_of (whole text) (unwrap_or (decimals text) []) ≡ size = cc in
        let short : length (whole text) ≤ 9 = grind (arith, nat_tests) in
        let places = decimals_small text (decimals text) (second_of (are_digits (whole text)) (option_map_or are_decimals (decimals text) true) is) in
        subst (λ n. n < height_limit) same
        (units_small (whole text) (unwrap_or (decimals text) []) (all_digits (whole text) (first_of (are_digits (whole text)) (option_map_or are_decimals (decimals text) true) is)) short places.0 places.1)

-- a length in metres is in its range
value_small : (read : Result ℕ LenFault) (negative : Bool) (height : ℤ) → ((size : ℕ) → read ≡ Ok size → size < height_limit) → height_from (result_map_both (signed negative) (λ fault. fault) read) ≡ Ok height
    → unsigned_abs height < height_limit
value_small (Err NotDigits) negative height small h = cc h
value_small (Err LongMetres) negative height small h = cc h
value_small (Ok size) negative height small h =
    let same : signed negative size ≡ height = cc in
    subst (λ z. unsigned_abs z < height_limit) same (subst (λ n. n < height_limit) (sym (abs_signed negative size)) (small size refl))

pub height_small : (field : List ℕ) (height : ℤ) → height_in field ≡ Ok height → unsigned_abs height < height_limit
height_small field height h = value_small (size_value (without_sign field)) (has_minus field) height (size_small (without_sign field)) h

pub flow_small : (place : ℕ) (key field : List ℕ) (flow : ℤ) → flow_in place key field ≡ Ok flow → unsigned_abs flow < flow_limit
flow_small place key field flow h = by (writes key place && are_digits (without_sign field)) (nat_le (length key) max_digits && nat_le (length (without_sign field)) max_digits) refl refl h
  where
    by : (form short : Bool) → (writes key place && are_digits (without_sign field)) ≡ form → (nat_le (length key) max_digits && nat_le (length (without_sign field)) max_digits) ≡ short
        → (if form then (if short then Ok (signed (has_minus field) (number (without_sign field))) else Err TooLarge) else Err BadNumber) ≡ Ok flow → unsigned_abs flow < flow_limit
    by false short is is' h = cc h
    by true false is is' h = cc h
    by true true is is' h =
        let same : signed (has_minus field) (number (without_sign field)) ≡ flow = cc in
        let digits = all_digits (without_sign field) (second_of (writes key place) (are_digits (without_sign field)) is) in
        let test : nat_le (length (without_sign field)) max_digits ≡ true = second_of (nat_le (length key) max_digits) (nat_le (length (without_sign field)) max_digits) is' in
        let few : length (without_sign field) ≤ max_digits = grind (arith, nat_tests) in
        let small : number (without_sign field) < flow_limit = number_below (without_sign field) max_digits digits few in
        subst (λ z. unsigned_abs z < flow_limit) same (subst (λ n. n < flow_limit) (sym (abs_signed (has_minus field) (number (without_sign field)))) small)

pub cost_small : (field : List ℕ) (cost : ℕ) → cost_in field ≡ Ok cost → cost < cost_limit
cost_small field cost h = by (are_digits field) (nat_le (length field) max_cost_digits) refl refl h
  where
    by : (form short : Bool) → are_digits field ≡ form → nat_le (length field) max_cost_digits ≡ short → (if form then (if short then Ok (number field) else Err TooLarge) else Err BadNumber) ≡ Ok cost → cost < cost_limit
    by false short is is' h = cc h
    by true false is is' h = cc h
    by true true is is' h =
        let same : number field ≡ cost = cc in
        let few : length field ≤ max_cost_digits = grind (arith, nat_tests) in
        subst (λ n. n < cost_limit) same (number_below field max_cost_digits (all_digits field is) few)

-- of at most thirty digits the capped number is the number
pub uncapped : (field : List ℕ) → list_all is_digit field ≡ true → length field ≤ max_cost_digits → min (number field) cost_limit ≡ number field
uncapped field digits few = omega (arith, number_below field max_cost_digits digits few)

-- a cost that is read
pub cost_read : (field : List ℕ) (n : ℕ) → are_digits field ≡ true → length field ≤ max_cost_digits → n ≡ min (number field) cost_limit → ◌≡◌ {A = Result ℕ CertKind} (Ok n) (cost_in field)
cost_read field n digits few is =
    let short : nat_le (length field) max_cost_digits ≡ true = grind (arith, nat_tests) in
    ap Ok (is ∙ uncapped field (all_digits field digits) few)
    ∙ sym (ap (λ form. if form then (if nat_le (length field) max_cost_digits then Ok (number field) else Err TooLarge) else Err BadNumber) digits ∙ ap (λ short. if short then Ok (number field) else Err TooLarge) short)
