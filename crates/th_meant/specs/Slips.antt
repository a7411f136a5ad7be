-- The digits of a height as they were typed, and what a slip makes of them.
use Rattle.std.specs.Prelude.{◌≡◌, ◌≢◌, ℕ, ℤ, ◌-◌, ◌/◌, ◌++◌, List, ◌∷◌, Ok, true, decimal, length, replicate, unsigned_abs}
use Rattle.std.specs.Int.{is_negative}
use Rattle.th_units.specs.Lengths.{is_digit, length_of}
use Rattle.th_units.specs.Units.{step}
use Rattle.th_meant.specs.Limits.{least_digits}
use Rattle.th_meant.specs.declared.typed.Typed.{Typed}

-- the number of a height in its unit, without the sign: how many whole units it has
abbrev pub number_of : Typed → ℕ
number_of typed = unsigned_abs typed.given / step typed.unit

-- digits with zeros before them, up to four
abbrev pub padded : List ℕ → List ℕ
padded digits = replicate (least_digits - length digits) 48 ++ digits

-- the digits of a height as they were typed
abbrev pub digits_of : Typed → List ℕ
digits_of typed = padded (decimal (number_of typed))

-- digits are a slip of others: one place has another digit, or two neighbours that differ are exchanged
pub data IsSlip : List ℕ → List ℕ → Type 0 where
  changed : {own digit : ℕ} {rest : List ℕ} → digit ≢ own → is_digit digit ≡ true → IsSlip (own ∷ rest) (digit ∷ rest)
  exchanged : {own next : ℕ} {rest : List ℕ} → next ≢ own → IsSlip (own ∷ next ∷ rest) (next ∷ own ∷ rest)
  behind : {own : ℕ} {rest slip : List ℕ} → IsSlip rest slip → IsSlip (own ∷ rest) (own ∷ slip)

-- a length is a slip of a height: a slip of its digits writes it, with the same sign and in the same unit
abbrev pub IsSlipOf : Typed → ℤ → Type 0
IsSlipOf typed length =
    (digits : List ℕ) × IsSlip (digits_of typed) digits × (length_of (is_negative typed.given) digits typed.unit ≡ Ok length)
