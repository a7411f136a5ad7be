-- A cost is its whole metres, and the decimals of the rest.
use Rattle.std.proofs.Common.{◌≡◌, ℕ, Bool, false, ◌/◌, ◌%◌, List, ◌∷◌, ◌++◌, Result, Ok, Err, IfOk, pos, decimal, drop, if◌then◌else◌, ap, sym, ◌∙◌, arith}
use Rattle.std.proofs.lemmas.Bool.Decides.{nat_tests}
use Rattle.std.proofs.lemmas.Fmt.{decimal_digit}
use Rattle.std.specs.Int.{is_negative}
use Rattle.th_units.specs.Metres.{last_digits, metre, metres, size_in_metres}

not_negative : (n : ℕ) → is_negative (pos n) ≡ false
not_negative n = grind (arith, nat_tests)

above_zero : (n : ℕ) → metres (pos n) ≡ size_in_metres n
above_zero n = ap (λ (b : Bool). if b then 45 ∷ size_in_metres n else size_in_metres n) (not_negative n)

pub rest_of_cost : (cost : ℕ) → drop 1 (metres (pos (cost % metre))) ≡ 46 ∷ last_digits 8 (cost % metre)
rest_of_cost cost =
    let none : (cost % metre) / metre ≡ 0 = omega arith in
    let same : (cost % metre) % metre ≡ cost % metre = omega arith in
    ap (drop 1) (above_zero (cost % metre)) ∙ ap (λ k. drop 1 (decimal k ++ 46 ∷ last_digits 8 ((cost % metre) % metre))) none
    ∙ ap (λ (digits : List ℕ). drop 1 (digits ++ 46 ∷ last_digits 8 ((cost % metre) % metre))) (decimal_digit 0 (omega arith)) ∙ ap (λ k. 46 ∷ last_digits 8 k) same

pub cost_parts : (cost : ℕ) → decimal (cost / metre) ++ drop 1 (metres (pos (cost % metre))) ≡ metres (pos cost)
cost_parts cost = ap (λ (rest : List ℕ). decimal (cost / metre) ++ rest) (rest_of_cost cost) ∙ sym (above_zero cost)

pub if_ok : {A E : Type 0} (P Q : A → Type 0) (result : Result A E) → ((x : A) → P x → Q x) → IfOk result P → IfOk result Q
if_ok P Q (Ok x) weaker holds = weaker x holds
if_ok P Q (Err e) weaker holds = tt
