-- Each of the last digits of a number is a digit.
use Rattle.std.proofs.Common.{◌≡◌, ◌<◌, ◌+◌, ◌/◌, ◌%◌, ◌&&◌, ℕ, zero, suc, Bool, true, [], ◌∷◌, refl, ap, ◌∙◌, arith}
use Rattle.std.specs.List.{list_all}
use Rattle.std.proofs.lemmas.List.Folds.{list_all-append}
use Rattle.std.proofs.lemmas.Bool.Decides.{nat_tests}
use Rattle.th_units.specs.Metres.{last_digits}
use Rattle.gsi_word.specs.Bytes.{is_data}

pub last_digits-all : (allowed : ℕ → Bool) → ((digit : ℕ) → digit < 10 → allowed (48 + digit) ≡ true) → (count n : ℕ) → list_all allowed (last_digits count n) ≡ true
unfolding last_digits
last_digits-all allowed digits zero n = refl
last_digits-all allowed digits (suc count) n =
    list_all-append allowed (last_digits count (n / 10)) ((48 + n % 10) ∷ [])
    ∙ ap (λ front. front && (allowed (48 + n % 10) && true)) (last_digits-all allowed digits count (n / 10))
    ∙ ap (λ last. last && true) (digits (n % 10) (omega arith))

-- a digit may stand in a word's data
pub digit_is_data : (digit : ℕ) → digit < 10 → is_data (48 + digit) ≡ true
digit_is_data digit small = grind (arith, nat_tests)
