-- The lines of a text are the one list of pieces of which it is made, each with its end.
use Rattle.std.proofs.Common.{◌≡◌, ◌≢◌, ℕ, true, false, ◌&&◌, ◌==◌, IsTrue, ◌⊎◌, inl, inr, List, [], ◌∷◌, ◌++◌, slice_index, refl, sym, ap, subst, ◌∙◌, append_assoc, append-nil, arith}
use Rattle.std.specs.List.{list_all}
use Rattle.std.proofs.lemmas.Bool.Decides.{nat_tests, eqb_tells}
use Rattle.gsi_block.specs.Lines.{is_carriage_return, is_line_feed, is_in_line, onto_first, lines_of, EndsLine, AreLines}
use Rattle.gsi_block.proofs.FirstLine.{lines_of-in_line}

-- a line end ends an empty line
lines_of-EndsLine : (end rest : List ℕ) → EndsLine end rest → lines_of (end ++ rest) ≡ [] ∷ lines_of rest
unfolding lines_of
lines_of-EndsLine end rest (inl e) = rw e refl
lines_of-EndsLine end rest (inr (inl e)) = rw e refl
lines_of-EndsLine end rest (inr (inr (e, other))) =
    let no_feed : is_line_feed (slice_index rest 0) ≡ false = grind (arith, nat_tests) in
    rw e (rw no_feed refl)

-- a line goes before the first of the lines behind it
lines_of-line : (line rest : List ℕ) (lines : List (List ℕ)) → IsTrue (list_all is_in_line line) → lines_of rest ≡ [] ∷ lines → lines_of (line ++ rest) ≡ line ∷ lines
lines_of-line [] rest lines h e = e
lines_of-line (byte ∷ line) rest lines h e =
    let first : is_in_line byte ≡ true = grind arith in
    let others : IsTrue (list_all is_in_line line) = grind arith in
    lines_of-in_line byte (line ++ rest) first ∙ ap (onto_first byte) (lines_of-line line rest lines others e)

-- a line that no end follows is the last
pub lines_of-last : (line : List ℕ) → IsTrue (list_all is_in_line line) → line ≢ [] → lines_of line ≡ line ∷ []
unfolding lines_of
lines_of-last [] h some = absurd (some refl)
lines_of-last (byte ∷ []) h some = lines_of-in_line byte [] (grind arith)
lines_of-last (byte ∷ next ∷ line) h some =
    let first : is_in_line byte ≡ true = grind arith in
    let others : IsTrue (list_all is_in_line (next ∷ line)) = grind arith in
    lines_of-in_line byte (next ∷ line) first ∙ ap (onto_first byte) (lines_of-last (next ∷ line) others (λ e. cc))

-- pieces of which a text is made are its lines
pub lines_of-from_AreLines : (lines : List (List ℕ)) (text : List ℕ) → AreLines lines text → lines ≡ lines_of text
unfolding lines_of
lines_of-from_AreLines [] text e = rw e refl
lines_of-from_AreLines (line ∷ lines) text (pure, (end, rest, made, more, inl ends)) =
    let after : lines_of (end ++ rest) ≡ [] ∷ lines =
    lines_of-EndsLine end rest ends ∙ ap (λ lines. [] ∷ lines) (sym (lines_of-from_AreLines lines rest more)) in
    sym (ap lines_of (made ∙ append_assoc line end rest) ∙ lines_of-line line (end ++ rest) lines pure after)
lines_of-from_AreLines (line ∷ lines) text (pure, (end, rest, made, more, inr (no_end, no_rest, some))) =
    let none : lines ≡ [] = lines_of-from_AreLines lines rest more ∙ ap lines_of no_rest in
    let whole : text ≡ line = made ∙ rw (no_end, no_rest) (append-nil (line ++ []) ∙ append-nil line) in
    rw (whole, none) (sym (lines_of-last line pure some))

-- a line end before some lines is an empty line more
after_end : (end bytes : List ℕ) (lines : List (List ℕ)) → EndsLine end bytes → AreLines lines bytes → AreLines ([] ∷ lines) (end ++ bytes)
after_end end bytes lines e more = (refl, (end, bytes, refl, more, inl e))

-- a byte of a line before some lines belongs to the first of them
after_in_line : (byte : ℕ) (bytes : List ℕ) (lines : List (List ℕ)) → is_in_line byte ≡ true → AreLines lines bytes → AreLines (onto_first byte lines) (byte ∷ bytes)
after_in_line byte bytes [] h e = (grind arith, ([], [], ap (λ bytes. byte ∷ bytes) e, refl, inr (refl, refl, λ e. cc)))
after_in_line byte bytes (line ∷ lines) h (pure, (end, rest, made, more, inl ends)) =
    (grind arith, (end, rest, ap (λ bytes. byte ∷ bytes) made, more, inl ends))
after_in_line byte bytes (line ∷ lines) h (pure, (end, rest, made, more, inr (no_end, no_rest, some))) =
    (grind arith, (end, rest, ap (λ bytes. byte ∷ bytes) made, more, inr (no_end, no_rest, λ e. cc)))

-- a CR before an LF ends no line by itself
goes_on-pair : (byte next : ℕ) (bytes : List ℕ) → (is_carriage_return byte && is_line_feed next) ≡ true → AreLines (lines_of bytes) bytes → AreLines (lines_of (byte ∷ next ∷ bytes)) (byte ∷ next ∷ bytes)
unfolding lines_of
goes_on-pair byte next bytes e more =
    let return : byte ≡ 13 = grind (arith, nat_tests) in
    let feed : next ≡ 10 = grind (arith, nat_tests) in
    rw (return, feed) (after_end (13 ∷ 10 ∷ []) bytes (lines_of bytes) (inl refl) more)

-- any other byte is an end by itself, or belongs to a line
goes_on : (byte : ℕ) (bytes : List ℕ) → (is_carriage_return byte && is_line_feed (slice_index bytes 0)) ≡ false → AreLines (lines_of bytes) bytes → AreLines (lines_of (byte ∷ bytes)) (byte ∷ bytes)
unfolding lines_of
goes_on byte bytes e more = by_kind (eqb_tells byte 10) (eqb_tells byte 13)
  where
    Is : ℕ → Type 0
    Is code = (((byte == code) ≡ true) × (byte ≡ code)) ⊎ (((byte == code) ≡ false) × (byte ≢ code))

    by_kind : Is 10 → Is 13 → AreLines (lines_of (byte ∷ bytes)) (byte ∷ bytes)
    by_kind (inl (is_feed, feed)) return =
        rw feed (after_end (10 ∷ []) bytes (lines_of bytes) (inr (inl refl)) more)
    by_kind (inr (no_feed, other)) (inl (is_return, return)) =
        let alone : is_line_feed (slice_index bytes 0) ≡ false = grind (arith, nat_tests) in
        let behind : slice_index bytes 0 ≢ 10 = grind (arith, nat_tests) in
        rw return (rw alone (after_end (13 ∷ []) bytes (lines_of bytes) (inr (inr (refl, behind))) more))
    by_kind (inr (no_feed, other)) (inr (no_return, another)) =
        let in_line : is_in_line byte ≡ true = grind (arith, nat_tests) in
        let P : List (List ℕ) → Type 0 = λ lines. AreLines lines (byte ∷ bytes) in
        subst P (sym (lines_of-in_line byte bytes in_line)) (after_in_line byte bytes (lines_of bytes) in_line more)

-- the lines of a text are pieces of which it is made
pub AreLines-lines_of : (text : List ℕ) → AreLines (lines_of text) text
unfolding lines_of
AreLines-lines_of [] = refl
AreLines-lines_of (byte ∷ []) = goes_on byte [] (grind arith) refl
AreLines-lines_of (byte ∷ next ∷ bytes) =
    elim (is_carriage_return byte && is_line_feed next) as (λ test. (is_carriage_return byte && is_line_feed next) ≡ test → AreLines (lines_of (byte ∷ next ∷ bytes)) (byte ∷ next ∷ bytes)) [
      | true ↦ λ e. goes_on-pair byte next bytes e (AreLines-lines_of bytes)
      | false ↦ λ e. goes_on byte (next ∷ bytes) e (AreLines-lines_of (next ∷ bytes))
    ] refl
