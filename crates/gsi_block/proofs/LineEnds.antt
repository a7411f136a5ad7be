-- Where the first byte of a line end stands.
use Rattle.std.proofs.Common.{◌≡◌, ◌≢◌, ◌<◌, ◌≤◌, ◌+◌, ◌++◌, ◌⊎◌, inl, inr, ℕ, true, false, List, Option, Some, None, length, take, drop, get_or, unwrap_or, sym, ap, ◌∙◌, arith}
use Rattle.std.specs.List.{prefix_len}
use Rattle.std.proofs.lemmas.Bool.Decides.{nat_tests, eqb_tells}
use Rattle.std.proofs.lemmas.List.{take-append-drop}
use Rattle.std.proofs.lemmas.List.Folds.{prefix_len-append}
use Rattle.std.proofs.lemmas.List.Sums.{prefix_len_is, prefix_len-le-length}
use Rattle.std.proofs.Math.Bool.{cond}
use Rattle.std.proofs.Math.Dec.{eqb}
use Rattle.memchr.specs.Find.{IsFirstByte, is_byte2}
use Rattle.gsi_block.specs.Lines.{is_in_line}

-- a byte that is no LF and no CR belongs to a line
in_line-other : (byte : ℕ) → is_byte2 10 13 byte ≢ true → is_in_line byte ≡ true
in_line-other byte other = grind (arith, nat_tests)

-- an LF or a CR belongs to none
in_line-end : (byte : ℕ) → is_byte2 10 13 byte ≡ true → is_in_line byte ≡ false
in_line-end byte end = grind (arith, nat_tests)

-- the first LF or CR stands behind the bytes of the first line; where there is none, all bytes are of that line
pub line_len-found : (text : List ℕ) (found : Option ℕ) → IsFirstByte (is_byte2 10 13) text found → unwrap_or found (length text) ≡ prefix_len is_in_line text
line_len-found text None none =
    sym (prefix_len_is is_in_line text (length text) 0 (omega arith) (λ k below. in_line-other (get_or text k 0) (none k (omega arith) below)) (λ past. absurd (omega arith)))
line_len-found text (Some place) (before, here) =
    sym (prefix_len_is is_in_line text place 0 (omega (arith, before.high)) (λ k below. in_line-other (get_or text k 0) (before.before k (omega arith) below)) (λ inside. in_line-end (get_or text place 0) here))

-- a line that ends within the first of two pieces ends there
line_len-ends : (front back : List ℕ) → prefix_len is_in_line front < length front → prefix_len is_in_line (front ++ back) ≡ prefix_len is_in_line front
line_len-ends front back ends = prefix_len-append is_in_line front back ∙ by (eqb_tells (prefix_len is_in_line front) (length front))
  where
    by : ((eqb (prefix_len is_in_line front) (length front) ≡ true) × (prefix_len is_in_line front ≡ length front))
        ⊎ ((eqb (prefix_len is_in_line front) (length front) ≡ false) × (prefix_len is_in_line front ≢ length front))
        → cond (eqb (prefix_len is_in_line front) (length front)) (length front + prefix_len is_in_line back) (prefix_len is_in_line front) ≡ prefix_len is_in_line front
    by (inl (_, all)) = absurd (omega (arith, all))
    by (inr (some, _)) = ap (λ s. cond s (length front + prefix_len is_in_line back) (prefix_len is_in_line front)) some

-- a line that does not end within it goes on in the second
line_len-goes_on : (front back : List ℕ) → length front ≤ prefix_len is_in_line front → prefix_len is_in_line (front ++ back) ≡ length front + prefix_len is_in_line back
line_len-goes_on front back passed = prefix_len-append is_in_line front back ∙ by (eqb_tells (prefix_len is_in_line front) (length front))
  where
    by : ((eqb (prefix_len is_in_line front) (length front) ≡ true) × (prefix_len is_in_line front ≡ length front))
        ⊎ ((eqb (prefix_len is_in_line front) (length front) ≡ false) × (prefix_len is_in_line front ≢ length front))
        → cond (eqb (prefix_len is_in_line front) (length front)) (length front + prefix_len is_in_line back) (prefix_len is_in_line front) ≡ length front + prefix_len is_in_line back
    by (inl (all, _)) = ap (λ s. cond s (length front + prefix_len is_in_line back) (prefix_len is_in_line front)) all
    by (inr (_, some)) = absurd (some (omega (arith, prefix_len-le-length is_in_line front)))

-- a line that ends within a window of the text ends there
pub line_len-within_window : (text : List ℕ) (window : ℕ) → prefix_len is_in_line (take window text) < length (take window text) → prefix_len is_in_line text ≡ prefix_len is_in_line (take window text)
line_len-within_window text window ends =
    ap (prefix_len is_in_line) (sym (take-append-drop window text)) ∙ line_len-ends (take window text) (drop window text) ends

-- a line that does not goes on behind it
pub line_len-behind_window : (text : List ℕ) (window : ℕ) → length (take window text) ≤ prefix_len is_in_line (take window text) → prefix_len is_in_line text ≡ length (take window text) + prefix_len is_in_line (drop window text)
line_len-behind_window text window passed =
    ap (prefix_len is_in_line) (sym (take-append-drop window text)) ∙ line_len-goes_on (take window text) (drop window text) passed
