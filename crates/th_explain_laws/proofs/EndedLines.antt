-- The lines of a text with their ends are its lines. So are other lines with the same ends.
use Rattle.std.proofs.Common.{◌≡◌, ◌≢◌, ℕ, Bool, true, false, cond, ◌&&◌, IsTrue, ◌⊎◌, inl, inr, List, [], ◌∷◌, ◌++◌, map, slice_index, refl, sym, ap, subst, ◌∙◌, arith}
use Rattle.std.specs.List.{list_all}
use Rattle.std.proofs.lemmas.Bool.Decides.{nat_tests}
use Rattle.gsi_block.specs.Lines.{AreLines, EndsLine, is_carriage_return, is_end_byte, is_in_line, is_line_feed}
use Rattle.th_mend.specs.Ends.{Ended, ended_lines, onto_end, onto_line}
use Rattle.th_mend.specs.Laws.{joined}
use Rattle.th_mend.proofs.LawLemmas.{joined_lines}

-- the lines without their ends
abbrev pub lines_in : List Ended → List (List ℕ)
lines_in lines = map (λ line. line.0) lines

-- a line ends before the text of those behind it, or it is the last one and not empty
abbrev pub EndsBefore : Ended → List Ended → Type 0
EndsBefore line lines = EndsLine line.1 (joined lines) ⊎ ((line.1 ≡ []) × (lines ≡ []) × (line.0 ≢ []))

-- lines that a text may consist of
abbrev pub AreEnded : List Ended → Type 0
AreEnded [] = Unit {0}
AreEnded (line ∷ lines) = IsTrue (list_all is_in_line line.0) × (EndsBefore line lines × AreEnded lines)

-- they are the lines of their text
pub are_lines : (lines : List Ended) → AreEnded lines → AreLines (lines_in lines) (joined lines)
are_lines [] ended = refl
are_lines (line ∷ lines) (pure, (inl ends, rest)) = (pure, (line.1, joined lines, refl, are_lines lines rest, inl ends))
are_lines (line ∷ lines) (pure, (inr (no_end, none, some), rest)) =
    (pure, (line.1, joined lines, refl, are_lines lines rest, inr (no_end, ap joined none, some)))

-- a byte of a line goes before the first line
in_front : (byte : ℕ) (lines : List Ended) → is_in_line byte ≡ true → AreEnded lines → AreEnded (onto_line byte lines)
in_front byte [] h ended = (grind arith, (inr (refl, refl, λ e. cc), tt))
in_front byte (line ∷ lines) h (pure, (inl ends, rest)) = (grind arith, (inl ends, rest))
in_front byte (line ∷ lines) h (pure, (inr (no_end, none, some), rest)) = (grind arith, (inr (no_end, none, λ e. cc), rest))

-- an end byte that begins a text is an end by itself, but for a CR before an LF
end_alone : (byte : ℕ) (bytes : List ℕ) → (is_carriage_return byte && is_line_feed (slice_index bytes 0)) ≡ false → is_end_byte byte ≡ true → EndsLine (byte ∷ []) bytes
end_alone byte bytes pair end = by (is_carriage_return byte) refl
  where
    by : (return : Bool) → is_carriage_return byte ≡ return → EndsLine (byte ∷ []) bytes
    by true e =
        let is : byte ≡ 13 = grind (arith, nat_tests) in
        let behind : slice_index bytes 0 ≢ 10 = grind (arith, nat_tests) in
        inr (inr (ap (λ byte. byte ∷ []) is, behind))
    by false e =
        let is : byte ≡ 10 = grind (arith, nat_tests) in
        inr (inl (ap (λ byte. byte ∷ []) is))

-- what the lines of a text are, by the first byte
step : (byte : ℕ) (bytes : List ℕ) → (is_carriage_return byte && is_line_feed (slice_index bytes 0)) ≡ false → AreEnded (ended_lines bytes) → AreEnded (ended_lines (byte ∷ bytes))
unfolding ended_lines
step byte bytes pair rest = by (is_carriage_return byte && is_line_feed (slice_index bytes 0)) (is_end_byte byte) pair refl
  where
    by : (both end : Bool) → both ≡ false → is_end_byte byte ≡ end
        → AreEnded (cond both (onto_end byte (ended_lines bytes)) (cond end (([], byte ∷ []) ∷ ended_lines bytes) (onto_line byte (ended_lines bytes))))
    by true end none is = absurd cc
    by false true none is =
        let ends : EndsLine (byte ∷ []) bytes = end_alone byte bytes pair is in
        (refl, (inl (subst (EndsLine (byte ∷ [])) (sym (joined_lines bytes)) ends), rest))
    by false false none is =
        let inside : is_in_line byte ≡ true = grind arith in
        in_front byte (ended_lines bytes) inside rest

-- a CR and an LF are one end
step_both : (byte next : ℕ) (bytes : List ℕ) → (is_carriage_return byte && is_line_feed next) ≡ true → AreEnded (ended_lines bytes) → AreEnded (ended_lines (byte ∷ next ∷ bytes))
unfolding ended_lines
step_both byte next bytes both rest =
    let return : byte ≡ 13 = grind (arith, nat_tests) in
    let feed : next ≡ 10 = grind (arith, nat_tests) in
    rw (return, feed) (refl, (inl (inl refl), rest))

-- the lines of a text are such lines
pub are_ended : (bytes : List ℕ) → AreEnded (ended_lines bytes)
unfolding ended_lines
are_ended [] = tt
are_ended (byte ∷ []) = step byte [] (grind arith) tt
are_ended (byte ∷ next ∷ bytes) =
    elim (is_carriage_return byte && is_line_feed next) as (λ test. (is_carriage_return byte && is_line_feed next) ≡ test → AreEnded (ended_lines (byte ∷ next ∷ bytes))) [
      | true ↦ λ e. step_both byte next bytes e (are_ended bytes)
      | false ↦ λ e. step byte (next ∷ bytes) e (are_ended (next ∷ bytes))
    ] refl

-- a line in place of another: it has the same end, has no byte of an end, and is not empty if the other is not
pub record IsInPlaceOf (old new : Ended) : Type 0 where
  pub end : new.1 ≡ old.1
  pub pure : IsTrue (list_all is_in_line old.0) → IsTrue (list_all is_in_line new.0)
  pub some : old.0 ≢ [] → new.0 ≢ []

abbrev pub AreInPlaceOf : List Ended → List Ended → Type 0
AreInPlaceOf [] [] = Unit {0}
AreInPlaceOf [] (own ∷ others) = ⊥
AreInPlaceOf (line ∷ lines) [] = ⊥
AreInPlaceOf (line ∷ lines) (own ∷ others) = IsInPlaceOf line own × AreInPlaceOf lines others

-- no LF comes first
no_feed : (lines others : List Ended) → AreEnded lines → AreInPlaceOf lines others → slice_index (joined lines) 0 ≢ 10 → slice_index (joined others) 0 ≢ 10
no_feed [] [] ended are before = before
no_feed [] (own ∷ others) ended are before = absurd are
no_feed (line ∷ lines) [] ended are before = absurd are
no_feed (line ∷ lines) (own ∷ others) (pure, (ends, rest)) are before = by own.0 line.0 refl refl ends (are.0.pure pure)
  where
    by : (new old : List ℕ) → own.0 ≡ new → line.0 ≡ old → EndsBefore line lines → IsTrue (list_all is_in_line own.0) → slice_index (joined (own ∷ others)) 0 ≢ 10
    by (byte ∷ more) old is was ends inside = λ e.
        let first : byte ≡ 10 = sym (ap (λ new. slice_index ((new ++ own.1) ++ joined others) 0) is) ∙ e in
        let all : list_all is_in_line (byte ∷ more) ≡ true = sym (ap (list_all is_in_line) is) ∙ inside in
        grind (arith, nat_tests)
    by [] (byte ∷ more) is was ends inside = absurd (are.0.some (λ none. let other : byte ∷ more ≡ [] = sym was ∙ none in cc) is)
    by [] [] is was (inr (no_end, none, some)) inside = absurd (some was)
    by [] [] is was (inl (inl e)) inside = λ first.
        let same : slice_index (joined (own ∷ others)) 0 ≡ 13 = ap (λ new. slice_index ((new ++ own.1) ++ joined others) 0) is ∙ ap (λ end. slice_index (end ++ joined others) 0) (are.0.end ∙ e) in
        omega (arith, first, same)
    by [] [] is was (inl (inr (inl e))) inside = absurd (before (ap (λ old. slice_index ((old ++ line.1) ++ joined lines) 0) was ∙ ap (λ end. slice_index (end ++ joined lines) 0) e))
    by [] [] is was (inl (inr (inr (e, alone)))) inside = λ first.
        let same : slice_index (joined (own ∷ others)) 0 ≡ 13 = ap (λ new. slice_index ((new ++ own.1) ++ joined others) 0) is ∙ ap (λ end. slice_index (end ++ joined others) 0) (are.0.end ∙ e) in
        omega (arith, first, same)

-- lines in place of those of a text are such lines too
pub others_ended : (lines others : List Ended) → AreEnded lines → AreInPlaceOf lines others → AreEnded others
others_ended [] [] ended are = tt
others_ended [] (own ∷ others) ended are = absurd are
others_ended (line ∷ lines) [] ended are = absurd are
others_ended (line ∷ lines) (own ∷ others) (pure, (ends, rest)) are = (are.0.pure pure, (by ends, others_ended lines others rest are.1))
  where
    none : (left : List Ended) → lines ≡ [] → others ≡ left → others ≡ []
    none [] e is = is
    none (first ∷ left) e is = absurd (subst (λ (own : List Ended). AreInPlaceOf own (first ∷ left)) e (subst (AreInPlaceOf lines) is are.1))

    by : EndsBefore line lines → EndsBefore own others
    by (inl (inl e)) = inl (inl (are.0.end ∙ e))
    by (inl (inr (inl e))) = inl (inr (inl (are.0.end ∙ e)))
    by (inl (inr (inr (e, alone)))) = inl (inr (inr (are.0.end ∙ e, no_feed lines others rest are.1 alone)))
    by (inr (no_end, last, some)) = inr (are.0.end ∙ no_end, none others last refl, are.0.some some)
