-- The first line of a text with its end, and the lines behind it.
use Rattle.std.proofs.Common.{◌≡◌, ℕ, ◌<◌, true, false, List, [], ◌∷◌, length, take, drop, refl, ap, ◌∙◌, arith, suc, zero}
use Rattle.std.specs.List.{prefix_len}
use Rattle.std.proofs.lemmas.Bool.Decides.{nat_tests}
use Rattle.gsi_block.specs.Lines.{is_in_line}
use Rattle.th_mend.specs.Ends.{ended_lines, onto_line}
use Rattle.th_mend.specs.Inside.Ends.{end_len}

-- a byte of a line goes before the first of the lines behind it
ended_lines-in_line : (byte : ℕ) (bytes : List ℕ) → is_in_line byte ≡ true → ended_lines (byte ∷ bytes) ≡ onto_line byte (ended_lines bytes)
unfolding ended_lines
ended_lines-in_line byte bytes h = grind (arith, nat_tests)

-- the end of a line at the front of bytes, and the bytes behind it
abbrev pub end_of : List ℕ → List ℕ
end_of bytes = take (end_len bytes) bytes

abbrev pub behind_end : List ℕ → List ℕ
behind_end bytes = drop (end_len bytes) bytes

-- a line end at the front ends an empty line
ended_lines-end : (byte : ℕ) (bytes : List ℕ) → is_in_line byte ≡ false → ended_lines (byte ∷ bytes) ≡ ([], end_of (byte ∷ bytes)) ∷ ended_lines (behind_end (byte ∷ bytes))
unfolding ended_lines
ended_lines-end byte [] h = grind (arith, nat_tests)
ended_lines-end byte (next ∷ bytes) h = grind (arith, nat_tests)

-- the first line of a text that has any, with its end, and the lines behind it
pub ended_lines-step : (text : List ℕ) (n : ℕ) → n ≡ prefix_len is_in_line text → 0 < length text → ended_lines text ≡ (take n text, end_of (drop n text)) ∷ ended_lines (behind_end (drop n text))
unfolding ended_lines
ended_lines-step [] n e some = absurd (omega arith)
ended_lines-step (byte ∷ bytes) zero e some = ended_lines-end byte bytes (grind arith)
ended_lines-step (byte ∷ []) (suc n) e some =
    let last : n ≡ 0 = grind arith in
    ended_lines-in_line byte [] (grind arith) ∙ rw last refl
ended_lines-step (byte ∷ next ∷ bytes) (suc n) e some =
    let rest : n ≡ prefix_len is_in_line (next ∷ bytes) = grind arith in
    ended_lines-in_line byte (next ∷ bytes) (grind arith)
    ∙ ap (onto_line byte) (ended_lines-step (next ∷ bytes) n rest (omega arith))
