-- The observations of the mended book, from its bytes.
use Rattle.std.proofs.Common.{◌≡◌, ℕ, zero, suc, ◌<◌, ◌||◌, Bool, true, false, cond, List, [], ◌∷◌, Option, Some, None, Result, Ok, Err, length, map, refl, sym, ap, subst, ◌∙◌, arith, zero-add}
use Rattle.std.specs.Prelude.{All, Contains, nat_lt}
use Rattle.std.proofs.lemmas.Bool.{eqb-true, false≢true}
use Rattle.std.proofs.lemmas.List.Elements.{All-contains, All-nil, All-weaker}
use Rattle.gsi_block.specs.Blocks.{BlockParts, block_at}
use Rattle.gsi_block.specs.Lines.{AreLines, lines_of}
use Rattle.gsi_block.specs.Spelled.{AreSpelled}
use Rattle.gsi_block.proofs.LinesLaw.{lines_of-from_AreLines}
use Rattle.gsi_block.proofs.WrittenBlocks.{AreSpelled-row}
use Rattle.th_observations.specs.Observed.{Observed}
use Rattle.th_book.specs.Books.{answer, book_answer, observations_of, parsed_of, too_long}
use Rattle.th_book.specs.Faults.{begins_with_point, first_fault}
use Rattle.th_book.specs.Limits.{max_book}
use Rattle.th_book.specs.Lines.{ParsedLine, words_in}
use Rattle.th_book.specs.Places.{line_at, words_at}
use Rattle.th_book.specs.declared.faults.BookFault.{BookFault}
use Rattle.th_book.proofs.Seeing.{faultless_first}
use Rattle.th_book.proofs.Soundness.{line_sound}
use Rattle.th_mend.specs.declared.changes.Change.{Change}
use Rattle.th_mend.specs.declared.changes.What.{What}
use Rattle.th_mend.specs.declared.changes.What.TheVariants.{Height, LeftOut, OtherSign, Sighted, Station, Target}
use Rattle.th_mend.specs.Edits.{covers, edits_of}
use Rattle.th_mend.specs.Ends.{Ended, ended_lines}
use Rattle.th_mend.specs.Laws.{AreMended, joined}
use Rattle.th_mend.specs.MendedBooks.{checked, if_faultless, mended, mended_by, mended_text, unless_faulty}
use Rattle.th_mend.specs.MendedLines.{is_name}
use Rattle.th_mend.specs.Reached.{home}
use Rattle.th_mend.specs.declared.edits.Edit.{Edit}
use Rattle.th_mend.specs.declared.faults.RowFault.{RowFault}
use Rattle.th_mend.proofs.LawLemmas.{all_mended, joined_lines}
use Rattle.th_explain_laws.specs.Corrected.{corrected, leaves_out}
use Rattle.th_explain_laws.proofs.BookLemmas.{observations_same, sight_or_setup}
use Rattle.th_explain_laws.proofs.EditLemmas.{AreApart, AreReadable, IsLocated, IsReadable, all_located, is_height, on_place, reaches_first}
use Rattle.th_explain_laws.proofs.EndedLines.{are_ended, are_lines, lines_in, others_ended}
use Rattle.th_explain_laws.proofs.PairLemmas.{AllPaired, AllReady, AllSound, ArePaired, IsReady, Laws, all_in_place, all_pairs, pair_at, pairs_long, ready_all, sound_all}
use Rattle.th_explain_laws.proofs.SpelledLemmas.{spelled_long}
use Rattle.th_explain_laws.proofs.StandingLemmas.{pointed, words_fine}

-- what a mended text is: the book has no fault, its edits are known, and the mended book has no fault either
pub record IsMendedBook (changes : List Change) (bytes text : List ℕ) : Type 0 where
  pub observations : List Observed
  pub edits : List Edit
  pub others : List Observed
  pub answered : book_answer 1 bytes ≡ Ok observations
  pub found : edits_of (parsed_of bytes) changes ≡ Ok edits
  pub made : mended_text edits bytes ≡ Ok text
  pub answered_too : book_answer 1 text ≡ Ok others

pub mended_parts : (changes : List Change) (bytes text : List ℕ) → mended changes bytes ≡ Ok text → IsMendedBook changes bytes text
mended_parts changes bytes text h = by (book_answer 1 bytes) (edits_of (parsed_of bytes) changes) refl refl h
  where
    last : (observations : List Observed) (edits : List Edit) (own : List ℕ) (answer : Result (List Observed) BookFault) → book_answer 1 bytes ≡ Ok observations → edits_of (parsed_of bytes) changes ≡ Ok edits → mended_text edits bytes ≡ Ok own
        → book_answer 1 own ≡ answer → if_faultless answer own ≡ Ok text → IsMendedBook changes bytes text
    last observations edits own (Err fault) a b c d h = absurd (cc h)
    last observations edits own (Ok others) a b c d h =
        let same : own ≡ text = cc h in
        record { observations = observations; edits = edits; others = others; answered = a; found = b; made = c ∙ ap Ok same; answered_too = sym (ap (book_answer 1) same) ∙ d }

    from : (observations : List Observed) (edits : List Edit) (found : Result (List ℕ) RowFault) → book_answer 1 bytes ≡ Ok observations → edits_of (parsed_of bytes) changes ≡ Ok edits → mended_text edits bytes ≡ found → checked found ≡ Ok text → IsMendedBook changes bytes text
    from observations edits (Err fault) a b c h = absurd (cc h)
    from observations edits (Ok own) a b c h = last observations edits own (book_answer 1 own) a b c refl h

    by : (answer : Result (List Observed) BookFault) (found : Result (List Edit) RowFault) → book_answer 1 bytes ≡ answer → edits_of (parsed_of bytes) changes ≡ found → unless_faulty answer (mended_by bytes found) ≡ Ok text → IsMendedBook changes bytes text
    by (Err fault) found a b h = absurd (cc h)
    by (Ok observations) (Err fault) a b h = absurd (cc h)
    by (Ok observations) (Ok edits) a b h = from observations edits (mended_text edits bytes) a b refl h

-- the lines of a text with their ends are its lines
lines_same : (bytes : List ℕ) → lines_in (ended_lines bytes) ≡ lines_of bytes
lines_same bytes = lines_of-from_AreLines (lines_in (ended_lines bytes)) bytes (subst (AreLines (lines_in (ended_lines bytes))) (joined_lines bytes) (are_lines (ended_lines bytes) (are_ended bytes)))

-- a book without a fault has its observations, whatever its number
answer_again : (one other : List Observed) (others : List Observed) (long : Bool) (fault : Option BookFault) → cond long (Err too_long) (answer fault one) ≡ Ok others → cond long (Err too_long) (answer fault other) ≡ Ok other
answer_again one other others true fault h = absurd (cc h)
answer_again one other others false None h = refl
answer_again one other others false (Some fault) h = absurd (cc h)

-- an edit of a name, or that leaves a sight out, is no height's
low : (what : What) → (is_name what || leaves_out what) ≡ true → is_height what ≡ false
low (Height kind reach own) h = absurd (false≢true h)
low (Sighted own) h = refl
low LeftOut h = refl
low OtherSign h = refl
low (Target name) h = refl
low (Station name) h = refl

-- the line that was read as a block
line_of_block : (lines : List (List ℕ)) (k : ℕ) (block : BlockParts) → line_at (map block_at lines) k ≡ Ok (Some block) → (line : List ℕ) × (block_at line ≡ Ok (Some block))
line_of_block [] zero block h = absurd (cc h)
line_of_block [] (suc k) block h = absurd (cc h)
line_of_block (line ∷ lines) zero block h = (line, h)
line_of_block (line ∷ lines) (suc k) block h = line_of_block lines k block h

module _ (laws : Laws) (changes : List Change) (readable : AreReadable changes) (bytes text : List ℕ) (is : IsMendedBook changes bytes text) where
  abbrev parsed : List ParsedLine
  parsed = parsed_of bytes

  abbrev new : List ParsedLine
  new = parsed_of text

  fine : first_fault parsed ≡ None
  fine = faultless_first 1 bytes is.observations is.answered

  fine_new : first_fault new ≡ None
  fine_new = faultless_first 1 text is.others is.answered_too

  good : All (IsLocated parsed) is.edits × AreApart is.edits
  good = all_located parsed changes 2 [] is.edits readable (All-nil (IsLocated parsed)) (λ one other among too h. absurd (omega (arith, among.1))) is.found

  readable_edits : All (λ (edit : Edit). IsReadable edit.what) is.edits
  readable_edits = All-weaker (IsLocated parsed) (λ (edit : Edit). IsReadable edit.what) (λ edit loc. loc.readable) is.edits good.0

  located : (edit : Edit) → Contains is.edits edit → IsLocated parsed edit
  located edit among = All-contains (IsLocated parsed) is.edits edit good.0 among

  spelled : (k : ℕ) (block : BlockParts) → line_at parsed k ≡ Ok (Some block) → AreSpelled block.width block.words
  spelled k block h =
      let line = line_of_block (lines_of bytes) k block h in
      let row = ((laws.blocks line.0 block).0 line.1).row in
      AreSpelled-row laws.spelling block.width block.words row.0 row.2

  point : (k : ℕ) → k < length parsed → (edit : Edit) → Contains is.edits edit → covers k edit ≡ true → (is_name edit.what || leaves_out edit.what) ≡ true → begins_with_point (words_at parsed k) ≡ true
  point k within edit among reach h =
      pointed (words_at parsed k) (words_fine parsed k fine within)
      (sight_or_setup edit.what (words_at parsed k) (home edit.what parsed k) (low edit.what h) (on_place parsed edit k (located edit among) (low edit.what h) reach))

  ready : (k : ℕ) → k < length parsed → IsReady is.edits k (line_at parsed k)
  ready k within = record {
    sound = line_sound parsed k fine within;
    fit = λ block h. record {
      readable = readable_edits;
      pointed = λ edit among reach changes. subst (λ words. begins_with_point words ≡ true) (ap words_in h) (point k within edit among reach changes);
      long = spelled_long block.width block.words (spelled k block h);
    };
    within = λ edit among h. subst (λ k. covers k edit ≡ true) (eqb-true edit.first k h) (reaches_first parsed edit (located edit among));
  }

  old_lines : map block_at (lines_in (ended_lines bytes)) ≡ parsed
  old_lines = ap (map block_at) (lines_same bytes)

  all_ready : AllReady is.edits 0 (map block_at (lines_in (ended_lines bytes)))
  all_ready = subst (AllReady is.edits 0) (sym old_lines) (ready_all is.edits 0 parsed (λ k within. subst (λ j. IsReady is.edits j (line_at parsed k)) (sym (zero-add k)) (ready k within)))

  mended_lines : (own : List Ended) × (text ≡ joined own) × AreMended is.edits 0 (ended_lines bytes) own
  mended_lines = all_mended is.edits 0 (ended_lines bytes) text is.made

  abbrev own : List Ended
  own = mended_lines.0

  new_lines : map block_at (lines_in own) ≡ new
  new_lines =
      ap (map block_at) (lines_of-from_AreLines (lines_in own) text (subst (AreLines (lines_in own)) (sym mended_lines.1)
      (are_lines own (others_ended (ended_lines bytes) own (are_ended bytes) (all_in_place laws is.edits 0 (ended_lines bytes) own all_ready mended_lines.2)))))

  sound : AllSound (map block_at (lines_in own))
  sound = subst AllSound (sym new_lines) (sound_all new (λ k within. line_sound new k fine_new within))

  pairs : AllPaired is.edits 0 parsed new
  pairs =
      subst (λ old. AllPaired is.edits 0 old new) old_lines
      (subst (AllPaired is.edits 0 (map block_at (lines_in (ended_lines bytes)))) new_lines (all_pairs laws is.edits 0 (ended_lines bytes) own all_ready sound mended_lines.2))

  pair : (k : ℕ) → k < length parsed → ArePaired is.edits k (line_at parsed k) (line_at new k)
  pair k within = subst (λ j. ArePaired is.edits j (line_at parsed k) (line_at new k)) (zero-add k) (pair_at is.edits 0 parsed new k pairs within)

  -- the mended book has its observations with just these changes
  pub corrected_answer : (number : ℕ) → book_answer number text ≡ Ok (corrected is.edits number (parsed_of bytes))
  corrected_answer number =
      answer_again (observations_of 1 new) (observations_of number new) is.others (nat_lt max_book (length text)) (first_fault new) is.answered_too
      ∙ ap Ok (observations_same is.edits parsed new fine (pairs_long is.edits 0 parsed new pairs) good.1 good.0 pair number)

-- the observations of a book without a fault
pub answered_is : (number : ℕ) (bytes : List ℕ) (observations : List Observed) → book_answer number bytes ≡ Ok observations → observations ≡ observations_of number (parsed_of bytes)
answered_is number bytes observations h = by (nat_lt max_book (length bytes)) (first_fault (parsed_of bytes)) h
  where
    by : (long : Bool) (fault : Option BookFault) → cond long (Err too_long) (answer fault (observations_of number (parsed_of bytes))) ≡ Ok observations → observations ≡ observations_of number (parsed_of bytes)
    by true fault h = absurd (cc h)
    by false None h = sym (cc h)
    by false (Some fault) h = absurd (cc h)

pub same_observations : (one other : List Observed) → ◌≡◌ {A = Result (List Observed) BookFault} (Ok one) (Ok other) → one ≡ other
same_observations one other h = cc h
