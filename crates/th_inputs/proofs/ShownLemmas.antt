-- What is shown is ASCII.
use Rattle.std.proofs.Common.{◌≡◌, ◌<◌, ◌+◌, ◌/◌, ◌%◌, ℕ, zero, suc, Bool, true, false, List, [], ◌∷◌, get_or, if◌then◌else◌, nat_lt, refl, arith}
use Rattle.std.specs.Str.{IsAscii, IsUtf8}
use Rattle.std.proofs.lemmas.Str.{IsAscii-append, IsUtf8-from_ascii}
use Rattle.gsi_word.specs.Bytes.{is_data}
use Rattle.th_inputs.specs.Shown.{hex_digit, shown, shown_byte}

hex_small : (digit : ℕ) → digit < 16 → hex_digit digit < 128
hex_small digit small = by (nat_lt digit 10)
  where
    by : (below : Bool) → (if below then 48 + digit else 55 + digit) < 128
    by true = omega arith
    by false = omega arith

four_ascii : (a b c d : ℕ) → a < 128 → b < 128 → c < 128 → d < 128 → IsAscii (a ∷ b ∷ c ∷ d ∷ [])
four_ascii a b c d p q r s zero = p
four_ascii a b c d p q r s (suc zero) = q
four_ascii a b c d p q r s (suc (suc zero)) = r
four_ascii a b c d p q r s (suc (suc (suc zero))) = s
four_ascii a b c d p q r s (suc (suc (suc (suc i)))) = omega arith

one_ascii : (a : ℕ) → a < 128 → IsAscii (a ∷ [])
one_ascii a p zero = p
one_ascii a p (suc i) = omega arith

byte_ascii : (byte : ℕ) → byte < 256 → IsAscii (shown_byte byte)
byte_ascii byte small = by (is_data byte) (grind arith)
  where
    by : (data_byte : Bool) → (data_byte ≡ true → byte < 128)
        → IsAscii (if data_byte then byte ∷ [] else 92 ∷ 120 ∷ hex_digit (byte / 16) ∷ hex_digit (byte % 16) ∷ [])
    by true below = one_ascii byte (below refl)
    by false below = four_ascii 92 120 _ _ (omega arith) (omega arith) (hex_small (byte / 16) (omega arith)) (hex_small (byte % 16) (omega arith))

shown_ascii : (bytes : List ℕ) → ((i : ℕ) → get_or bytes i 0 < 256) → IsAscii (shown bytes)
shown_ascii [] small = λ i. omega arith
shown_ascii (byte ∷ bytes) small = IsAscii-append (shown_byte byte) (shown bytes) (byte_ascii byte (small 0)) (shown_ascii bytes (λ i. small (suc i)))

-- so it is text
pub shown_utf8 : (bytes : List ℕ) → ((i : ℕ) → get_or bytes i 0 < 256) → IsUtf8 (shown bytes)
shown_utf8 bytes small = IsUtf8-from_ascii (shown bytes) (shown_ascii bytes small)
