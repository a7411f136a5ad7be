-- The first line of a text, and the lines behind it.
use Rattle.std.proofs.Common.{◌≡◌, ℕ, ◌<◌, true, false, List, [], ◌∷◌, length, take, drop, refl, ap, ◌∙◌, arith, suc, zero}
use Rattle.std.specs.List.{prefix_len}
use Rattle.std.proofs.lemmas.Bool.Decides.{nat_tests}
use Rattle.gsi_block.specs.Inside.Ends.{end_len}
use Rattle.gsi_block.specs.Lines.{is_in_line, onto_first, lines_of}

-- a byte of a line goes before the first of the lines behind it
pub lines_of-in_line : (byte : ℕ) (bytes : List ℕ) → is_in_line byte ≡ true → lines_of (byte ∷ bytes) ≡ onto_first byte (lines_of bytes)
unfolding lines_of
lines_of-in_line byte bytes h = grind (arith, nat_tests)

-- a line end at the front ends an empty line
lines_of-end : (byte : ℕ) (bytes : List ℕ) → is_in_line byte ≡ false → lines_of (byte ∷ bytes) ≡ [] ∷ lines_of (drop (end_len (byte ∷ bytes)) (byte ∷ bytes))
unfolding lines_of
lines_of-end byte [] h = grind (arith, nat_tests)
lines_of-end byte (next ∷ bytes) h = grind (arith, nat_tests)

-- what is left of bytes behind the end at their front
abbrev pub behind_end : List ℕ → List ℕ
behind_end bytes = drop (end_len bytes) bytes

-- the first line of a text that has any, and the lines behind its end
pub lines_of-step : (text : List ℕ) (n : ℕ) → n ≡ prefix_len is_in_line text → 0 < length text → lines_of text ≡ take n text ∷ lines_of (behind_end (drop n text))
unfolding lines_of
lines_of-step [] n e some = absurd (omega arith)
lines_of-step (byte ∷ bytes) zero e some = lines_of-end byte bytes (grind arith)
lines_of-step (byte ∷ []) (suc n) e some =
    let last : n ≡ 0 = grind arith in
    lines_of-in_line byte [] (grind arith) ∙ rw last refl
lines_of-step (byte ∷ next ∷ bytes) (suc n) e some =
    let rest : n ≡ prefix_len is_in_line (next ∷ bytes) = grind arith in
    lines_of-in_line byte (next ∷ bytes) (grind arith)
    ∙ ap (onto_first byte) (lines_of-step (next ∷ bytes) n rest (omega arith))

-- a text with no byte has no line
pub lines_of-none : (text : List ℕ) → length text ≡ 0 → lines_of text ≡ []
unfolding lines_of
lines_of-none [] e = refl
lines_of-none (byte ∷ bytes) e = absurd (omega arith)
