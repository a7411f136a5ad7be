-- What digits write, read from the front, and the last digits of a number.
use Rattle.std.proofs.Common.{◌≡◌, ◌≢◌, ℕ, ◌+◌, ◌-◌, ◌*◌, ◌/◌, ◌%◌, ◌^◌, ◌<◌, ◌≤◌, Bool, true, false, ◌&&◌, List, [], ◌∷◌, ◌++◌, length, get_or, take, drop, map, refl, sym, ap, subst, ◌∙◌, arith, length-append, suc, zero}
use Rattle.std.specs.Char.{digit_value}
use Rattle.std.specs.List.{list_all}
use Rattle.std.specs.Int.Digits.{number_from_digits_after}
use Rattle.std.specs.Str.Parse.{AllDigits}
use Rattle.std.proofs.Math.Nat.{pow-le-pow_right}
use Rattle.std.proofs.lemmas.Int.Digits.{digits_value_is, digits_value_more, digits_value-lt, number_after_append, number_after_ge}
use Rattle.std.proofs.lemmas.Str.{digit_value_digit}
use Rattle.std.proofs.lemmas.Nat.{pow-add}
use Rattle.std.proofs.lemmas.Bool.{false≢true}
use Rattle.std.proofs.lemmas.Bool.Decides.{nat_tests}
use Rattle.std.proofs.lemmas.List.{take-append-drop, map-append}
use Rattle.std.proofs.lemmas.List.Folds.{list_all_at}
use Rattle.th_units.specs.Lengths.{is_digit, are_digits, number}
use Rattle.th_units.specs.Metres.{last_digits}

-- a test that each element passes is passed at each place
pub list_all-get_or : (p : ℕ → Bool) (xs : List ℕ) (i : ℕ) → i < length xs → list_all p xs ≡ true → p (get_or xs i 0) ≡ true
list_all-get_or p xs i within passes =
    elim (p (get_or xs i 0)) as (λ b. p (get_or xs i 0) ≡ b → b ≡ true) [
      | true ↦ λ e. refl
      | false ↦ λ e. absurd (false≢true (sym (list_all_at p xs i 0 within e) ∙ passes))
    ] refl

-- a byte that passes the test for digits lies from 48 to 57
pub digit_bounds : (byte : ℕ) → is_digit byte ≡ true → (48 ≤ byte) × (byte ≤ 57)
digit_bounds byte h = (grind (arith, nat_tests), grind (arith, nat_tests))

-- each byte of what passes the test for digits is a digit
pub all_digits : (bytes : List ℕ) → are_digits bytes ≡ true → list_all is_digit bytes ≡ true
all_digits bytes h = second_test _ _ h
  where
    second_test : (a b : Bool) → (a && b) ≡ true → b ≡ true
    second_test true b h = h
    second_test false b h = absurd (false≢true h)

-- one more digit: ten times the number so far, plus the digit
pub number_more : (bytes : List ℕ) (i : ℕ) → list_all is_digit bytes ≡ true → i < length bytes → number (take (i + 1) bytes) ≡ 10 * number (take i bytes) + (get_or bytes i 0 - 48)
number_more bytes i h within =
    let bounds : (48 ≤ get_or bytes i 0) × (get_or bytes i 0 ≤ 57) = digit_bounds (get_or bytes i 0) (list_all-get_or is_digit bytes i within h) in
    let value : digit_value (get_or bytes i 0) + 48 ≡ get_or bytes i 0 = digit_value_digit (get_or bytes i 0) bounds in
    omega (arith, digits_value_more 10 bytes i within)

-- bytes that are digits, as std says it
pub AllDigits-from_list_all : (bytes : List ℕ) → list_all is_digit bytes ≡ true → AllDigits 10 bytes
AllDigits-from_list_all [] h = tt
AllDigits-from_list_all (byte ∷ bytes) h =
    let first : is_digit byte ≡ true = list_all-get_or is_digit (byte ∷ bytes) 0 (omega arith) h in
    let bounds : (48 ≤ byte) × (byte ≤ 57) = digit_bounds byte first in
    let value : digit_value byte + 48 ≡ byte = digit_value_digit byte bounds in
    (omega arith, AllDigits-from_list_all bytes (sym (ap (λ b. b && list_all is_digit bytes) first) ∙ h))

-- digits write a number with no more digits
pub number-lt : (bytes : List ℕ) → list_all is_digit bytes ≡ true → number bytes < 10 ^ length bytes
number-lt bytes h = digits_value-lt 10 bytes (AllDigits-from_list_all bytes h)

-- at most so many digits write a number below that power of ten
pub number_below : (bytes : List ℕ) (most : ℕ) → list_all is_digit bytes ≡ true → length bytes ≤ most → number bytes < 10 ^ most
number_below bytes most h short =
    let power : 10 ^ length bytes ≤ 10 ^ most = pow-le-pow_right (omega arith) short in
    omega (arith, number-lt bytes h)

-- a front of some digits writes no larger number
pub number_front : (bytes : List ℕ) (i : ℕ) → number (take i bytes) ≤ number bytes
number_front bytes i =
    let P : List ℕ → Type 0 = λ whole. number (take i bytes) ≤ number whole in
    subst P (take-append-drop i bytes) (grows (take i bytes) (drop i bytes))
  where
    grows : (front rest : List ℕ) → number front ≤ number (front ++ rest)
    grows front rest =
        let joined : number (front ++ rest) ≡ number_from_digits_after 10 (number front) (map digit_value rest) =
        digits_value_is 10 (front ++ rest) ∙ ap (number_from_digits_after 10 0) (map-append digit_value front rest)
        ∙ number_after_append 10 0 (map digit_value front) (map digit_value rest)
        ∙ ap (λ n. number_from_digits_after 10 n (map digit_value rest)) (sym (digits_value_is 10 front)) in
        omega (arith, joined, number_after_ge 10 (number front) (map digit_value rest) (omega arith))

-- digits that begin with no zero write a number with as many digits
pub number_above : (bytes : List ℕ) (i : ℕ) → list_all is_digit bytes ≡ true → get_or bytes 0 49 ≢ 48 → i < length bytes → 10 ^ i ≤ number bytes
number_above bytes i digits first within = omega (arith, grows i within, number_front bytes (i + 1))
  where
    begins : (bytes : List ℕ) → 0 < length bytes → get_or bytes 0 49 ≢ 48 → get_or bytes 0 0 ≢ 48
    begins [] some first = absurd (omega arith)
    begins (byte ∷ bytes) some first = first

    grows : (i : ℕ) → i < length bytes → 10 ^ i ≤ number (take (i + 1) bytes)
    grows zero within =
        let bounds = digit_bounds (get_or bytes 0 0) (list_all-get_or is_digit bytes 0 within digits) in
        let other = begins bytes within first in
        omega (arith, number_more bytes 0 digits within, bounds.0, other)
    grows (suc i) within =
        let turn : i + 1 ≡ suc i = omega arith in
        let power : 10 ^ suc i ≡ 10 ^ i * 10 = ap (λ n. 10 ^ n) (sym turn) ∙ pow-add 10 i 1 in
        omega (arith, power, number_more bytes (suc i) digits within, subst (λ n. 10 ^ i ≤ number (take n bytes)) turn (grows i (omega arith)))

pub length-last_digits : (count n : ℕ) → length (last_digits count n) ≡ count
unfolding last_digits
length-last_digits zero n = refl
length-last_digits (suc count) n =
    omega (arith, length-append (last_digits count (n / 10)) ((48 + n % 10) ∷ []), length-last_digits count (n / 10))
