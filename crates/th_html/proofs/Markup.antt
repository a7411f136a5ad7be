-- Escaped texts make no markup.
use Rattle.std.proofs.Common.{◌≡◌, ℕ, ◌-◌, ◌++◌, ◌==◌, ◌&&◌, ◌||◌, Bool, true, false, List, [], ◌∷◌, codes, nat_lt, not, refl, ap, ◌∙◌}
use Rattle.std.specs.Prelude.{if◌then◌else◌}
use Rattle.std.specs.List.{list_all}
use Rattle.std.proofs.lemmas.List.Folds.{list_all-append}
use Rattle.th_html.specs.Laws.{EscapedMakesNoMarkup, is_plain}
use Rattle.th_html.specs.Texts.{escaped_behind, escaped_byte, hidden_len, next_escaped}

-- what is written for a byte, given which tests it passes
abbrev chosen : ℕ → Bool → Bool → Bool → Bool → Bool → Bool → Bool → List ℕ
chosen byte amp less greater quote apostrophe control delete =
    if amp then codes "&amp;"
    else (if less then codes "&lt;"
    else (if greater then codes "&gt;"
    else (if quote then codes "&quot;"
    else (if apostrophe then codes "&#39;"
    else (if control || delete then codes "?"
    else byte ∷ [])))))

abbrev passes : Bool → Bool → Bool → Bool → Bool → Bool → Bool
passes less greater quote apostrophe control delete = not control && not delete && not less && not greater && not quote && not apostrophe

by_tests : (byte : ℕ) (amp less greater quote apostrophe control delete : Bool) → is_plain byte ≡ passes less greater quote apostrophe control delete
    → list_all is_plain (chosen byte amp less greater quote apostrophe control delete) ≡ true
by_tests byte true less greater quote apostrophe control delete same = refl
by_tests byte false true greater quote apostrophe control delete same = refl
by_tests byte false false true quote apostrophe control delete same = refl
by_tests byte false false false true apostrophe control delete same = refl
by_tests byte false false false false true control delete same = refl
by_tests byte false false false false false true delete same = refl
by_tests byte false false false false false false true same = refl
by_tests byte false false false false false false false same = ap (λ plain. plain && true) same

plain_byte : (byte : ℕ) → list_all is_plain (escaped_byte byte) ≡ true
plain_byte byte = by_tests byte (byte == 38) (byte == 60) (byte == 62) (byte == 34) (byte == 39) (nat_lt byte 32) (byte == 127) refl

both : (a b : Bool) → a ≡ true → b ≡ true → (a && b) ≡ true
both a b first second = ap (λ a. a && b) first ∙ second

plain_next : (byte hidden : ℕ) → list_all is_plain (next_escaped byte hidden) ≡ true
plain_next byte hidden = by (hidden == 0)
  where
    by : (shown : Bool) → list_all is_plain (if shown then escaped_byte byte else codes "?") ≡ true
    by true = plain_byte byte
    by false = refl

plain_behind : (skipped : ℕ) (text : List ℕ) → list_all is_plain (escaped_behind skipped text) ≡ true
plain_behind skipped [] = refl
plain_behind skipped (byte ∷ rest) = by (λ behind. plain_behind behind rest) (skipped == 0)
  where
    hidden : ℕ
    hidden = hidden_len (byte ∷ rest)

    by : ((behind : ℕ) → list_all is_plain (escaped_behind behind rest) ≡ true) → (now : Bool)
        → list_all is_plain (if now then next_escaped byte hidden ++ escaped_behind (hidden - 1) rest else escaped_behind (skipped - 1) rest) ≡ true
    by later true =
        list_all-append is_plain (next_escaped byte hidden) (escaped_behind (hidden - 1) rest)
        ∙ both _ _ (plain_next byte hidden) (later (hidden - 1))
    by later false = later (skipped - 1)

pub plain_text : EscapedMakesNoMarkup
plain_text text = plain_behind 0 text
