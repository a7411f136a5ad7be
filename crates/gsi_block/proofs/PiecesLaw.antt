-- The lines of a text that comes in pieces, each cut to what is kept of it.
use Rattle.std.proofs.Common.{◌≡◌, ℕ, ◌+◌, ◌<◌, ◌≤◌, Bool, cond, true, false, ◌&&◌, ◌==◌, IsTrue, List, [], ◌∷◌, ◌++◌, length, min, slice_index, get_or, take, drop, refl, sym, ap, ◌∙◌, append_assoc, append-nil, arith, suc, zero}
use Rattle.std.specs.List.{list_all, prefix_len}
use Rattle.std.proofs.lemmas.Bool.Decides.{nat_tests}
use Rattle.std.proofs.lemmas.List.{take-take, take_all, take_min, drop-take, get_or-take, get_or-drop, length-take, length-take-le, length-drop}
use Rattle.std.proofs.lemmas.List.Sums.{prefix_len_stops, prefix_len-le-length}
use Rattle.std.proofs.Math.Nat.{min_comm}
use Rattle.std.proofs.Math.Seq.{take-add, take-append-add}
use Rattle.gsi_block.specs.Limits.{max_kept, max_line}
use Rattle.gsi_block.specs.Lines.{is_line_feed, is_in_line, onto_first, lines_of}
use Rattle.gsi_block.specs.Pieces.{LineState, cut_line, cut_lines, behind_return, begun, lines_due}
use Rattle.gsi_block.specs.Inside.Ends.{end_len, is_lone_return, feed_len}
use Rattle.gsi_block.proofs.FirstLine.{lines_of-in_line}
use Rattle.gsi_block.proofs.LinesLaw.{lines_of-last}

-- bytes put before some lines, from the last byte to the first
abbrev pub onto_lines : List ℕ → List (List ℕ) → List (List ℕ)
onto_lines [] lines = lines
onto_lines (byte ∷ bytes) lines = onto_first byte (onto_lines bytes lines)

-- bytes of a line before a text go before its lines
lines_of-onto : (line text : List ℕ) → IsTrue (list_all is_in_line line) → lines_of (line ++ text) ≡ onto_lines line (lines_of text)
lines_of-onto [] text h = refl
lines_of-onto (byte ∷ line) text h =
    let first : is_in_line byte ≡ true = grind arith in
    let others : IsTrue (list_all is_in_line line) = grind arith in
    lines_of-in_line byte (line ++ text) first ∙ ap (onto_first byte) (lines_of-onto line text others)

-- bytes before no line are a line
onto_lines-none : (byte : ℕ) (bytes : List ℕ) → onto_lines (byte ∷ bytes) [] ≡ (byte ∷ bytes) ∷ []
onto_lines-none byte [] = refl
onto_lines-none byte (next ∷ bytes) = ap (onto_first byte) (onto_lines-none next bytes)

-- bytes before some lines are at the front of the first
onto_lines-some : (bytes line : List ℕ) (lines : List (List ℕ)) → onto_lines bytes (line ∷ lines) ≡ (bytes ++ line) ∷ lines
onto_lines-some [] line lines = refl
onto_lines-some (byte ∷ bytes) line lines = ap (onto_first byte) (onto_lines-some bytes line lines)

-- what is kept of a line is the same where only that was kept of its front
take-onto_taken : (n : ℕ) (front line : List ℕ) → take n (take n front ++ line) ≡ take n (front ++ line)
take-onto_taken zero front line = refl
take-onto_taken (suc n) [] line = refl
take-onto_taken (suc n) (byte ∷ front) line = ap (λ bytes. byte ∷ bytes) (take-onto_taken n front line)

-- the same of some lines
cut_lines-onto : (front : List ℕ) (lines : List (List ℕ)) → cut_lines (onto_lines (cut_line front) lines) ≡ cut_lines (onto_lines front lines)
cut_lines-onto [] lines = refl
cut_lines-onto (byte ∷ front) [] =
    ap cut_lines (onto_lines-none byte (take max_line front))
    ∙ ap (λ line. line ∷ []) (take-take max_kept max_kept (byte ∷ front) (omega arith))
    ∙ ap cut_lines (sym (onto_lines-none byte front))
cut_lines-onto (byte ∷ front) (line ∷ lines) =
    ap cut_lines (onto_lines-some (cut_line (byte ∷ front)) line lines)
    ∙ ap (λ line. line ∷ cut_lines lines) (take-onto_taken max_kept (byte ∷ front) line)
    ∙ ap cut_lines (sym (onto_lines-some (byte ∷ front) line lines))

-- a part of a line holds no end
pub in_line-take : (n : ℕ) (line : List ℕ) → IsTrue (list_all is_in_line line) → IsTrue (list_all is_in_line (take n line))
in_line-take zero line h = refl
in_line-take (suc n) [] h = refl
in_line-take (suc n) (byte ∷ line) h =
    let first : is_in_line byte ≡ true = grind arith in
    let others : IsTrue (list_all is_in_line line) = grind arith in
    let rest : IsTrue (list_all is_in_line (take n line)) = in_line-take n line others in
    grind arith

-- two parts of a line are one
pub in_line-append : (line more : List ℕ) → IsTrue (list_all is_in_line line) → IsTrue (list_all is_in_line more) → IsTrue (list_all is_in_line (line ++ more))
in_line-append [] more h others = others
in_line-append (byte ∷ line) more h others =
    let first : is_in_line byte ≡ true = grind arith in
    let rest : IsTrue (list_all is_in_line (line ++ more)) = in_line-append line more (grind arith) others in
    grind arith

-- what stands before the first end holds none
pub in_line-front : (n : ℕ) (bytes : List ℕ) → n ≤ prefix_len is_in_line bytes → IsTrue (list_all is_in_line (take n bytes))
in_line-front zero bytes h = refl
in_line-front (suc n) [] h = refl
in_line-front (suc n) (byte ∷ bytes) h =
    let first : is_in_line byte ≡ true = grind arith in
    let rest : IsTrue (list_all is_in_line (take n bytes)) = in_line-front n bytes (grind arith) in
    grind arith

-- what is kept of two parts of a line is the first part and what there is room for of the second
pub cut_line-append : (line more : List ℕ) (room : ℕ) → room + length line ≡ max_kept → cut_line (line ++ more) ≡ line ++ take (min (length more) room) more
cut_line-append line more room fits =
    let all : max_kept ≡ length line + room = omega arith in
    rw all (take-append-add line more room) ∙ ap (λ part. line ++ part) (sym (take_min room more) ∙ ap (λ n. take n more) (min_comm room (length more)))

-- what is kept of a line is as much of it as there may be
pub cut_line-min : (line : List ℕ) → cut_line line ≡ take (min (length line) max_kept) line
cut_line-min line = sym (take_min max_kept line) ∙ ap (λ n. take n line) (min_comm max_kept (length line))

-- what is kept of a line stays the same where nothing comes behind it
pub cut_line-none : (line none : List ℕ) → length line ≤ max_kept → length none ≡ 0 → cut_line (line ++ none) ≡ line
cut_line-none line [] fits e = ap cut_line (append-nil line) ∙ take_all max_kept line fits
cut_line-none line (byte ∷ bytes) fits e = absurd (omega arith)

-- a text that goes on with a line is cut into the same lines where only what is kept of that line stands there
pub lines_due-kept : (line text : List ℕ) → IsTrue (list_all is_in_line line) → cut_lines (lines_of (line ++ text)) ≡ cut_lines (lines_of (cut_line line ++ text))
lines_due-kept line text h =
    ap cut_lines (lines_of-onto line text h)
    ∙ sym (cut_lines-onto line (lines_of text))
    ∙ ap cut_lines (sym (lines_of-onto (cut_line line) text (in_line-take max_kept line h)))

-- the end that stands at the front of some bytes ends an empty line, also where the bytes behind it are others
lines_of-front_end : (end text : List ℕ) → 0 < length end → is_in_line (slice_index end 0) ≡ false → lines_of (take (end_len end) end ++ text) ≡ [] ∷ lines_of (behind_return (is_lone_return end) text)
unfolding lines_of
lines_of-front_end [] text some h = absurd (omega arith)
lines_of-front_end (byte ∷ []) [] some h = grind (arith, nat_tests)
lines_of-front_end (byte ∷ []) (first ∷ text) some h = grind (arith, nat_tests)
lines_of-front_end (byte ∷ next ∷ end) [] some h = grind (arith, nat_tests)
lines_of-front_end (byte ∷ next ∷ end) (first ∷ text) some h = grind (arith, nat_tests)

-- an LF that belongs to the end before it is passed, whatever comes behind the bytes of which the first is there
behind_return-feed_len : (after_return : Bool) (bytes text : List ℕ) → 0 < length bytes → behind_return after_return (bytes ++ text) ≡ drop (feed_len after_return bytes) bytes ++ text
behind_return-feed_len after_return [] text some = absurd (omega arith)
behind_return-feed_len true (byte ∷ bytes) text some = grind (arith, nat_tests)
behind_return-feed_len false (byte ∷ bytes) text some = refl

-- bytes in which no line ends hold no end
pub none_ended : (bytes : List ℕ) → length (drop (prefix_len is_in_line bytes) bytes) ≡ 0 → IsTrue (list_all is_in_line bytes)
none_ended bytes none =
    let n = prefix_len is_in_line bytes in
    let whole : take n bytes ≡ bytes = take_all n bytes (omega (arith, none, length-drop n bytes)) in
    rw (← whole) (in_line-front n bytes (omega arith))

-- a text that goes on with a line and an end is cut into what is kept of that line, and the lines behind the end
lines_due-ended : (line end text : List ℕ) → IsTrue (list_all is_in_line line) → 0 < length end → is_in_line (slice_index end 0) ≡ false → cut_lines (lines_of (line ++ (take (end_len end) end ++ text))) ≡ cut_line line ∷ cut_lines (lines_of (behind_return (is_lone_return end) text))
lines_due-ended line end text h some first =
    ap cut_lines (lines_of-onto line (take (end_len end) end ++ text) h ∙ ap (onto_lines line) (lines_of-front_end end text some first) ∙ onto_lines-some line [] (lines_of (behind_return (is_lone_return end) text)))
    ∙ ap (λ line. cut_line line ∷ cut_lines (lines_of (behind_return (is_lone_return end) text))) (append-nil line)

-- an end has a byte
end_len-some : (end : List ℕ) → 0 < length end → 0 < end_len end
end_len-some [] some = absurd (omega arith)
end_len-some (byte ∷ end) some = grind (arith, nat_tests)

-- a piece that goes on to an end is the bytes of its line, and what the end takes
take_to_end : (s n e : ℕ) (piece : List ℕ) → drop s (take (s + n + e) piece) ≡ take n (drop s piece) ++ take e (drop n (drop s piece))
take_to_end s n e piece =
    let sum : s + n + e ≡ s + (n + e) = omega arith in
    rw sum (drop-take s (n + e) piece ∙ take-add n e (drop s piece))

-- what a take that ended a line did with the lines that are due
pub lines_due-take : (after_return : Bool) (held piece text : List ℕ) (s n : ℕ) → IsTrue (list_all is_in_line held) → s ≡ feed_len after_return piece → n ≡ prefix_len is_in_line (drop s piece) → 0 < length (drop n (drop s piece)) → cut_lines (lines_of (held ++ behind_return after_return (take (s + n + end_len (drop n (drop s piece))) piece ++ text))) ≡ cut_line (held ++ take n (drop s piece)) ∷ cut_lines (lines_of (behind_return (is_lone_return (drop n (drop s piece))) text))
lines_due-take after_return held piece text s n h skipped before some =
    ap (λ bytes. cut_lines (lines_of (held ++ bytes))) (behind_return-feed_len after_return taken text taken_some ∙ ap (λ n. drop n taken ++ text) same ∙ ap (λ bytes. bytes ++ text) (take_to_end s n e piece) ∙ append_assoc front (take e end) text)
    ∙ ap (λ bytes. cut_lines (lines_of bytes)) (sym (append_assoc held front (take e end ++ text)))
    ∙ lines_due-ended (held ++ front) end text (in_line-append held front h (in_line-front n (drop s piece) (omega arith))) some first
  where
    front : List ℕ
    front = take n (drop s piece)

    end : List ℕ
    end = drop n (drop s piece)

    e : ℕ
    e = end_len end

    taken : List ℕ
    taken = take (s + n + e) piece

    ends : 0 < e
    ends = end_len-some end some

    taken_some : 0 < length taken
    taken_some = omega (arith, ends, length-take (s + n + e) piece, length-drop s piece, length-drop n (drop s piece))

    same : feed_len after_return taken ≡ s
    same = ap (λ byte. cond (after_return && is_line_feed byte) 1 0) (get_or-take (s + n + e) piece 0 0 (omega (arith, ends))) ∙ sym skipped

    place : n + 0 ≡ prefix_len is_in_line (drop s piece)
    place = omega arith

    first : is_in_line (slice_index end 0) ≡ false
    first = ap is_in_line (get_or-drop n (drop s piece) 0 0) ∙ ap (λ k. is_in_line (get_or (drop s piece) k 0)) place ∙ prefix_len_stops is_in_line (drop s piece) 0 (omega (arith, length-drop n (drop s piece)))

-- what a take that gave no line did with the lines that are due
pub lines_due-passed : (after_return next : Bool) (held piece text : List ℕ) (s n : ℕ) → IsTrue (list_all is_in_line held) → s ≡ feed_len after_return piece → n ≡ prefix_len is_in_line (drop s piece) → next ≡ (after_return && (length piece == 0)) → length (drop s piece) ≤ n → cut_lines (lines_of (held ++ behind_return after_return (piece ++ text))) ≡ cut_lines (lines_of (cut_line (held ++ take n (drop s piece)) ++ behind_return next text))
lines_due-passed after_return next held piece text s n h skipped before e all =
    ap (λ bytes. cut_lines (lines_of (held ++ bytes))) (passed piece skipped e ∙ ap (λ bytes. bytes ++ behind_return next text) (sym whole))
    ∙ ap (λ bytes. cut_lines (lines_of bytes)) (sym (append_assoc held (take n (drop s piece)) (behind_return next text)))
    ∙ lines_due-kept (held ++ take n (drop s piece)) (behind_return next text) (in_line-append held (take n (drop s piece)) h (in_line-front n (drop s piece) (omega arith)))
  where
    whole : take n (drop s piece) ≡ drop s piece
    whole = take_all n (drop s piece) all

    passed : (piece : List ℕ) → s ≡ feed_len after_return piece → next ≡ (after_return && (length piece == 0)) → behind_return after_return (piece ++ text) ≡ drop s piece ++ behind_return next text
    passed [] skipped e =
        let same : next ≡ after_return = grind (arith, nat_tests) in
        let none : s ≡ 0 = grind (arith, nat_tests) in
        rw (same, none) refl
    passed (byte ∷ bytes) skipped e =
        let none : next ≡ false = grind (arith, nat_tests) in
        rw (skipped, none) (behind_return-feed_len after_return (byte ∷ bytes) text (omega arith))

-- A take at work: what was known before, behind the line that was complete, and with the bytes of the piece that belong to the line; how many bytes belong to
-- the end before it and to the line, and the bytes of the line and behind it.
pub record Takes (before begins keeps : LineState) (piece bytes front end : List ℕ) (skipped place : ℕ) : Type 0 where
  pub line : begins.line ≡ begun before
  pub complete : begins.complete ≡ false
  pub after_return : begins.after_return ≡ before.after_return
  pub in_line : list_all is_in_line begins.line ≡ true
  pub passes : skipped ≡ feed_len begins.after_return piece
  pub goes_on : bytes ≡ drop skipped piece
  pub ends : place ≡ prefix_len is_in_line bytes
  pub in_front : front ≡ take place bytes
  pub behind : end ≡ drop place bytes
  pub kept : keeps ≡ record begins { line = cut_line (begins.line ++ front) }

module _ (before begins keeps : LineState) (piece bytes front end : List ℕ) (skipped place : ℕ) (takes : Takes before begins keeps piece bytes front end skipped place) where
  -- the line is kept with its bytes of the piece
  keeps-line : keeps.line ≡ cut_line (begins.line ++ take place (drop skipped piece))
  keeps-line =
      ap (λ lines. lines.line) takes.kept
      ∙ ap (λ part. cut_line (begins.line ++ part)) (takes.in_front ∙ ap (take place) takes.goes_on)

  -- the bytes that belong to the end before
  skips : skipped ≡ feed_len before.after_return piece
  skips = takes.passes ∙ ap (λ after_return. feed_len after_return piece) takes.after_return

  -- where the line ends
  ends_at : place ≡ prefix_len is_in_line (drop skipped piece)
  ends_at = takes.ends ∙ ap (prefix_len is_in_line) takes.goes_on

  -- what stands behind it
  end_at : end ≡ drop place (drop skipped piece)
  end_at = takes.behind ∙ ap (drop place) takes.goes_on

  -- where no end came, the lines that were due are due, and the piece is taken
  pub due-passed : (next : Bool) (text : List ℕ) → length end ≡ 0 → next ≡ (before.after_return && (length piece == 0)) → lines_due before (piece ++ text) ≡ lines_due (record keeps { after_return = next }) text
  due-passed next text none e =
      let all : length (drop skipped piece) ≤ place = omega (arith, ap length end_at, length-drop place (drop skipped piece)) in
      let incomplete : keeps.complete ≡ false = ap (λ lines. lines.complete) takes.kept ∙ takes.complete in
      ap (λ held. cut_lines (lines_of (held ++ behind_return before.after_return (piece ++ text)))) (sym takes.line)
      ∙ lines_due-passed before.after_return next begins.line piece text skipped place takes.in_line skips ends_at e all
      ∙ ap (λ held. cut_lines (lines_of (held ++ behind_return next text))) (sym keeps-line)
      ∙ rw incomplete refl

  -- where an end came, the line that it ended was due
  pub due-taken : (text : List ℕ) → 0 < length end → lines_due before (take (skipped + length front + end_len end) piece ++ text) ≡ keeps.line ∷ lines_due (record keeps { complete = true; after_return = is_lone_return end }) text
  due-taken text some =
      let inside : place ≤ length bytes = omega (arith, takes.ends, prefix_len-le-length is_in_line bytes) in
      let long : length front ≡ place = ap length takes.in_front ∙ length-take-le place bytes inside in
      let more : 0 < length (drop place (drop skipped piece)) = omega (arith, ap length end_at) in
      rw (long, end_at) (ap (λ held. cut_lines (lines_of (held ++ behind_return before.after_return (take (skipped + place + end_len (drop place (drop skipped piece))) piece ++ text)))) (sym takes.line)
      ∙ lines_due-take before.after_return begins.line piece text skipped place takes.in_line skips ends_at more
      ∙ ap (λ line. line ∷ cut_lines (lines_of (behind_return (is_lone_return (drop place (drop skipped piece))) text))) (sym keeps-line))

  -- where no line had begun and an end came, what is kept of the bytes before it was due, and no line has begun behind it
  pub due-whole : (text : List ℕ) → begins.line ≡ [] → 0 < length end → lines_due before (take (skipped + length front + end_len end) piece ++ text) ≡ cut_line front ∷ lines_due (record begins { after_return = is_lone_return end }) text
  due-whole text none some =
      let line : keeps.line ≡ cut_line front = ap (λ lines. lines.line) takes.kept ∙ ap (λ held. cut_line (held ++ front)) none in
      let begun_none : begun (record begins { after_return = is_lone_return end }) ≡ [] = ap (λ complete. cond complete [] begins.line) takes.complete ∙ none in
      due-taken text some
      ∙ ap (λ line. line ∷ cut_lines (lines_of (behind_return (is_lone_return end) text))) line
      ∙ ap (λ held. cut_line front ∷ cut_lines (lines_of (held ++ behind_return (is_lone_return end) text))) (sym begun_none)

-- with nothing to come nothing stands behind a CR
behind_return-none : (after_return : Bool) → behind_return after_return [] ≡ []
behind_return-none true = refl
behind_return-none false = refl

-- where no line has begun and nothing is to come, no line is due
pub due-none : (lines : LineState) → begun lines ≡ [] → lines_due lines [] ≡ []
unfolding lines_of
due-none lines none = rw (none, behind_return-none lines.after_return) refl

-- where a line has begun and nothing is to come, that line is due
pub due-last : (lines : LineState) → lines.complete ≡ false → IsTrue (list_all is_in_line lines.line) → 0 < length lines.line → length lines.line ≤ max_kept → lines_due lines [] ≡ lines.line ∷ []
due-last lines e h some fits =
    rw (e, behind_return-none lines.after_return, append-nil lines.line) (ap cut_lines (lines_of-last lines.line h (λ none. absurd (omega (arith, ap length none)))) ∙ ap (λ line. line ∷ []) (take_all max_kept lines.line fits))
