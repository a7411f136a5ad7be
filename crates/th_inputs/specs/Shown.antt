-- Bytes as they are shown on standard error.
use Rattle.std.specs.Prelude.{ℕ, List, [], ◌∷◌, ◌+◌, ◌/◌, ◌%◌, ◌==◌, if◌then◌else◌, nat_lt}
use Rattle.std.specs.List.{flat_map}
use Rattle.gsi_word.specs.Bytes.{is_data}

-- a digit of base 16: 0 to 9, A to F
abbrev pub hex_digit : ℕ → ℕ
hex_digit digit = if nat_lt digit 10 then 48 + digit else 55 + digit

-- a byte as it is shown: itself where it is printable ASCII, else a backslash, an x and two digits of base 16
abbrev pub shown_byte : ℕ → List ℕ
shown_byte byte = if is_data byte then byte ∷ [] else 92 ∷ 120 ∷ hex_digit (byte / 16) ∷ hex_digit (byte % 16) ∷ []

-- a text as it is shown
abbrev pub shown : List ℕ → List ℕ
shown bytes = flat_map shown_byte bytes

-- a text of several lines as it is shown: its line feeds stay
abbrev pub shown_in_lines : ℕ → List ℕ
shown_in_lines byte = if byte == 10 then 10 ∷ [] else shown_byte byte

abbrev pub shown_lines : List ℕ → List ℕ
shown_lines bytes = flat_map shown_in_lines bytes
