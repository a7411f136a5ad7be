-- Texts from outside as a page shows them.
use Rattle.std.specs.Prelude.{ℕ, ◌-◌, ◌==◌, ◌++◌, List, [], ◌∷◌, ◌&&◌, ◌||◌, codes, if◌then◌else◌, nat_le, nat_lt, slice_index_or}

-- a byte of such a text: an entity for each of the five that could make markup, `?` for a control byte, else the byte
abbrev pub escaped_byte : ℕ → List ℕ
escaped_byte byte =
    if byte == 38 then codes "&amp;"
    else (if byte == 60 then codes "&lt;"
    else (if byte == 62 then codes "&gt;"
    else (if byte == 34 then codes "&quot;"
    else (if byte == 39 then codes "&#39;"
    else (if nat_lt byte 32 || byte == 127 then codes "?"
    else byte ∷ [])))))

-- how many bytes the character at the front of such a text has if a page may not have it, else 0: the UTF-8 of U+0080 to U+009F, and of U+FFFE and U+FFFF
abbrev pub hidden_len : List ℕ → ℕ
hidden_len text =
    let second = slice_index_or text 1 0 in
    if slice_index_or text 0 0 == 194 && (nat_le 128 second && nat_lt second 160) then 2
    else (if slice_index_or text 0 0 == 239 && (second == 191 && nat_le 190 (slice_index_or text 2 0)) then 3 else 0)

-- the next byte of such a text, or `?` for a hidden character of so many bytes
abbrev pub next_escaped : ℕ → ℕ → List ℕ
next_escaped byte hidden = if hidden == 0 then escaped_byte byte else codes "?"

-- such a text behind its first bytes, which are those of a hidden character
abbrev pub escaped_behind : ℕ → List ℕ → List ℕ
escaped_behind skipped [] = []
escaped_behind skipped (byte ∷ rest) =
    if skipped == 0 then next_escaped byte (hidden_len (byte ∷ rest)) ++ escaped_behind (hidden_len (byte ∷ rest) - 1) rest
    else escaped_behind (skipped - 1) rest

-- such a text
abbrev pub escaped : List ℕ → List ℕ
escaped text = escaped_behind 0 text
