-- Each line of the mended text is the mended line of its place.
use Rattle.std.proofs.Common.{◌≡◌, ◌↔◌, ℕ, ◌+◌, ◌<◌, ◌==◌, ◌&&◌, ◌||◌, ◌⊎◌, inl, inr, Bool, true, false, not, cond, IsTrue, List, [], ◌∷◌, ◌++◌, Some, None, Ok, Err, length, map, drop, replicate, slice_index, zero, suc, refl, sym, ap, subst, ◌∙◌, arith}
use Rattle.std.specs.List.{find, flat_map, list_all}
use Rattle.std.specs.Prelude.{All, Contains, slice_index_or}
use Rattle.std.proofs.lemmas.Bool.{false≢true, true≢false}
use Rattle.std.proofs.lemmas.List.{append-nil}
use Rattle.std.proofs.lemmas.List.Elements.{All-head, All-tail, Contains-get_or}
use Rattle.th_units.specs.Lengths.{is_digit}
use Rattle.gsi_word.specs.Words.{Parts, closed, result_map}
use Rattle.gsi_word.specs.declared.words.Width.{Width}
use Rattle.gsi_word.specs.declared.words.Width.TheVariants.{Eight, Sixteen}
use Rattle.gsi_block.specs.Blocks.{BlockParts, IsBlankLine, IsBlock, SpellsRow, block_at, is_blank, mark}
use Rattle.gsi_block.specs.Lines.{is_in_line}
use Rattle.gsi_block.specs.Spelled.{AreSpelled}
use Rattle.gsi_block.proofs.RowsLaw.{WordsAreSpelled, row_begins, row_some}
use Rattle.gsi_block.proofs.WrittenBlocks.{AreSpelled-row, WordHasOneSpelling}
use Rattle.th_book.specs.Entered.{IsSound}
use Rattle.th_book.specs.Lines.{ParsedLine, holds}
use Rattle.th_book.specs.Places.{line_at}
use Rattle.th_entries.specs.Entries.{index_of}
use Rattle.th_mend.specs.declared.changes.Reach.TheVariants.{Since, Whole}
use Rattle.th_mend.specs.declared.changes.What.{What}
use Rattle.th_mend.specs.declared.changes.What.TheVariants.{Height, LeftOut, OtherSign, Sighted, Station, Target}
use Rattle.th_mend.specs.NewWords.{added_word}
use Rattle.th_mend.specs.Edits.{covers, is_named}
use Rattle.th_mend.specs.Ends.{Ended}
use Rattle.th_mend.specs.Laws.{AreMended}
use Rattle.th_mend.specs.MendedLines.{NewWords, added_by, added_words, and_then, changed, is_name, is_of_word, later_words, line_with, made, mended_line, mended_parsed, mended_words, or_else, own_words, word_edit, without_last}
use Rattle.th_mend.specs.declared.edits.Edit.{Edit}
use Rattle.th_explain_laws.proofs.EditLemmas.{fails}
use Rattle.th_explain_laws.proofs.EndedLines.{AreInPlaceOf, IsInPlaceOf, lines_in}
use Rattle.th_explain_laws.proofs.LineLemmas.{IsFit}
use Rattle.th_explain_laws.proofs.NameLemmas.{begins_with}
use Rattle.th_explain_laws.proofs.RowLemmas.{behind_row, line_made, only_block, row_bytes, row_inside, row_with}
use Rattle.th_explain_laws.proofs.SpelledLemmas.{mended_spelled}

-- an edit that adds a word in a line reaches that line
abbrev pub AddsWithin : List Edit → ℕ → Type 0
AddsWithin edits place = (edit : Edit) → Contains edits edit → (edit.first == place) ≡ true → covers place edit ≡ true

-- where no edit reaches a line, its words stay
find_nothing : (edits : List Edit) (place : ℕ) (test : Edit → Bool) → is_named edits place ≡ false → find (λ (edit : Edit). covers place edit && test edit) edits ≡ None
find_nothing [] place test none = refl
find_nothing (edit ∷ edits) place test none = by (covers place edit) none (find_nothing edits place test)
  where
    by : (own : Bool) → (own || is_named edits place) ≡ false → (is_named edits place ≡ false → find (λ (edit : Edit). covers place edit && test edit) edits ≡ None)
        → cond (own && test edit) (Some edit) (find (λ (edit : Edit). covers place edit && test edit) edits) ≡ None
    by true none rest = absurd (true≢false none)
    by false none rest = rest none

later_stay : (edits : List Edit) (place : ℕ) (words : List Parts) → is_named edits place ≡ false → later_words edits place words ≡ Ok words
later_stay edits place [] none = refl
later_stay edits place (word ∷ words) none =
    ap (λ edit. and_then (changed edit word) (later_words edits place words)) (find_nothing edits place (λ (edit : Edit). is_of_word word edit.what) none)
    ∙ ap (and_then (Ok (word ∷ []))) (later_stay edits place words none)

own_stay : (edits : List Edit) (place : ℕ) (words : List Parts) → is_named edits place ≡ false → own_words edits place words ≡ Ok words
own_stay edits place [] none = refl
own_stay edits place (word ∷ words) none =
    ap (λ edit. and_then (changed (or_else edit (word_edit edits place word)) word) (later_words edits place words)) (find_nothing edits place (λ (edit : Edit). is_name edit.what) none)
    ∙ later_stay edits place (word ∷ words) none

none_get : (edits : List Edit) (place : ℕ) (block : BlockParts) → ((edit : Edit) → Contains edits edit → (edit.first == place) ≡ false) → added_words edits place block ≡ Ok []
none_get edits place block never = by edits (λ k d within. never (slice_index_or edits k d) (Contains-get_or edits k d within))
  where
    Test : Edit → Type 0
    Test edit = (edit.first == place) ≡ false

    one : (edit : Edit) → (edit.first == place) ≡ false → (what : What) → added_by edit what place block ≡ Ok []
    one edit none (Height kind Since own) = ap (λ here. cond (here && not (holds (index_of kind) block.words)) (made edit.row (added_word block.width (index_of kind) own)) (Ok [])) none
    one edit none (Height kind Whole own) = refl
    one edit none (Sighted own) = refl
    one edit none LeftOut = refl
    one edit none OtherSign = refl
    one edit none (Target name) = refl
    one edit none (Station name) = refl

    by : (edits : List Edit) → All Test edits → added_words edits place block ≡ Ok []
    by [] all = refl
    by (edit ∷ edits) all =
        ap (λ own. and_then own (added_words edits place block)) (one edit (All-head Test edit edits all) edit.what) ∙ ap (and_then (Ok [])) (by edits (All-tail Test edit edits all))

words_stay : (edits : List Edit) (place : ℕ) (block : BlockParts) → AddsWithin edits place → is_named edits place ≡ false → mended_words edits place block ≡ Ok block.words
words_stay edits place block within none =
    ap (λ own. and_then own (added_words edits place block)) (own_stay edits place block.words none)
    ∙ ap (and_then (Ok block.words)) (none_get edits place block not_here)
    ∙ ap Ok (append-nil block.words)
  where
    not_here : (edit : Edit) → Contains edits edit → (edit.first == place) ≡ false
    not_here edit among = by (edit.first == place) refl
      where
        by : (here : Bool) → (edit.first == place) ≡ here → here ≡ false
        by true e = absurd (true≢false (sym (within edit among e) ∙ fails (covers place) edits edit none among))
        by false e = refl

-- a line in place of a block: it is spelled by the mended words
pub record IsNewBlock (edits : List Edit) (place : ℕ) (line new : List ℕ) : Type 0 where
  pub block : BlockParts
  pub own : List Parts
  pub row : List ℕ
  pub was : block_at line ≡ Ok (Some block)
  pub words : mended_words edits place block ≡ Ok own
  pub made : new ≡ mark block.width ++ row
  pub spells : SpellsRow block.width own row
  pub pure : IsTrue (list_all is_in_line line) → IsTrue (list_all is_in_line new)

-- a mended line
abbrev pub IsNewLine : List Edit → ℕ → List ℕ → List ℕ → Type 0
IsNewLine edits place line new = ((block_at line ≡ Ok None) × (new ≡ line)) ⊎ IsNewBlock edits place line new

-- what the laws of lower crates say
pub record Laws : Type 0 where
  pub words : WordsAreSpelled
  pub blocks : (line : List ℕ) (block : BlockParts) → (block_at line ≡ Ok (Some block)) ↔ IsBlock line block
  pub blanks : (line : List ℕ) → (block_at line ≡ Ok None) ↔ IsBlankLine line
  pub spelling : WordHasOneSpelling

-- what is known of a line and its edits
pub record IsReady (edits : List Edit) (place : ℕ) (parsed : ParsedLine) : Type 0 where
  pub sound : IsSound parsed
  pub fit : (block : BlockParts) → parsed ≡ Ok (Some block) → IsFit edits place block.words
  pub within : AddsWithin edits place

abbrev pub AllReady : List Edit → ℕ → List ParsedLine → Type 0
AllReady edits place [] = Unit {0}
AllReady edits place (parsed ∷ lines) = IsReady edits place parsed × AllReady edits (place + 1) lines

-- what holds at each place
pub ready_all : (edits : List Edit) (place : ℕ) (parsed : List ParsedLine) → ((k : ℕ) → k < length parsed → IsReady edits (place + k) (line_at parsed k)) → AllReady edits place parsed
ready_all edits place [] each = tt
ready_all edits place (line ∷ lines) each = (
  subst (λ own. IsReady edits own line) (let same : place + 0 ≡ place = omega arith in same) (each 0 (omega arith)),
  ready_all edits (place + 1) lines (λ k within. subst (λ own. IsReady edits own (line_at lines k)) (let same : place + suc k ≡ (place + 1) + k = omega arith in same) (each (suc k) (omega arith))),
)

-- lines that are sound
abbrev pub AllSound : List ParsedLine → Type 0
AllSound [] = Unit {0}
AllSound (parsed ∷ lines) = IsSound parsed × AllSound lines

pub sound_all : (parsed : List ParsedLine) → ((k : ℕ) → k < length parsed → IsSound (line_at parsed k)) → AllSound parsed
sound_all [] each = tt
sound_all (line ∷ lines) each = (each 0 (omega arith), sound_all lines (λ k within. each (suc k) (omega arith)))

module _ (laws : Laws) (edits : List Edit) where
  new_line : (place : ℕ) (line new : List ℕ) → IsReady edits place (block_at line) → mended_line edits place line ≡ Ok new → IsNewLine edits place line new
  new_line place line new ready h = by (block_at line) (is_named edits place) refl refl ready.sound h
    where
      block_made : (block : BlockParts) (own : List Parts) → block_at line ≡ Ok (Some block) → mended_words edits place block ≡ Ok own → new ≡ line_with block line own → IsNewLine edits place line new
      block_made block own is words made =
          let old : IsBlock line block = (laws.blocks line block).0 is in
          let bytes = old.row.0 in
          let some : 0 < length block.words = row_some block.width block.words bytes old.row.2 in
          let spelled : AreSpelled block.width own = mended_spelled edits place block own (ready.fit block is).readable (AreSpelled-row laws.spelling block.width block.words bytes old.row.2) words in
          let own_some : 0 < length own = first_there block own is words some in
          let spaces = drop (row_bytes block.width block.words) bytes in
          let blank : is_blank spaces ≡ true = behind_row block.width block.words bytes old.row.2 in
          let whole : new ≡ mark block.width ++ (without_last (flat_map closed own) ++ spaces) = made ∙ line_made block line bytes own old.row.1 some own_some in
          inr (record {
            block = block;
            own = own;
            row = without_last (flat_map closed own) ++ spaces;
            was = is;
            words = words;
            made = whole;
            spells = row_with block.width own spaces own_some spelled blank;
            pure = λ pure. ap (list_all is_in_line) whole ∙ row_inside block.width own spaces spelled blank;
          })
        where
          first_there : (block : BlockParts) (own : List Parts) → block_at line ≡ Ok (Some block) → mended_words edits place block ≡ Ok own → 0 < length block.words → 0 < length own
          first_there block own is words some = from block.words refl some
            where
              from : (old : List Parts) → block.words ≡ old → 0 < length old → 0 < length own
              from [] e some = absurd (omega arith)
              from (word ∷ rest) e some =
                  let begins = begins_with edits place block word rest own e (ready.fit block is) words in
                  let long : length own ≡ suc (length begins.rest) = ap length begins.is in
                  omega (arith, long)

      block_same : (block : BlockParts) → block_at line ≡ Ok (Some block) → is_named edits place ≡ false → new ≡ line → IsNewLine edits place line new
      block_same block is none same =
          let old : IsBlock line block = (laws.blocks line block).0 is in
          inr (record {
            block = block;
            own = block.words;
            row = old.row.0;
            was = is;
            words = words_stay edits place block ready.within none;
            made = same ∙ old.row.1;
            spells = old.row.2;
            pure = λ pure. ap (list_all is_in_line) same ∙ pure;
          })

      by : (parsed : ParsedLine) (named : Bool) → block_at line ≡ parsed → is_named edits place ≡ named → IsSound parsed → cond named (mended_parsed edits place line parsed) (Ok line) ≡ Ok new → IsNewLine edits place line new
      by (Err fault) named is e sound h = absurd sound
      by (Ok None) true is e sound h = inl (is, sym (cc h))
      by (Ok None) false is e sound h = inl (is, sym (cc h))
      by (Ok (Some block)) false is e sound h = block_same block is e (sym (cc h))
      by (Ok (Some block)) true is e sound h = from (mended_words edits place block) refl h
        where
          from : (words : NewWords) → mended_words edits place block ≡ words → result_map (line_with block line) words ≡ Ok new → IsNewLine edits place line new
          from (Err fault) w h = absurd (cc h)
          from (Ok own) w h = block_made block own is w (sym (cc h))

  -- such a line is in place of the other
  in_place : (place : ℕ) (old new : Ended) → IsNewLine edits place old.0 new.0 → new.1 ≡ old.1 → IsInPlaceOf old new
  in_place place old new (inl (blank, same)) end = record { end = end; pure = λ pure. ap (list_all is_in_line) same ∙ pure; some = λ some none. some (sym same ∙ none) }
  in_place place old new (inr is) end = record {
    end = end;
    pure = is.pure;
    some = λ some none. by is.block.width (row_begins is.block.width is.own is.row is.spells) (sym none ∙ is.made);
  }
    where
      by : (width : Width) → is_digit (slice_index is.row 0) ≡ true → [] ≡ mark width ++ is.row → ⊥
      by Eight digit e = let never : is_digit (slice_index [] 0) ≡ true = ap (λ row. is_digit (slice_index row 0)) e ∙ digit in false≢true never
      by Sixteen digit e = cc e

  pub all_in_place : (place : ℕ) (lines own : List Ended) → AllReady edits place (map block_at (lines_in lines)) → AreMended edits place lines own → AreInPlaceOf lines own
  all_in_place place [] [] ready are = tt
  all_in_place place [] (new ∷ own) ready are = absurd are
  all_in_place place (line ∷ lines) [] ready are = absurd are
  all_in_place place (line ∷ lines) (new ∷ own) ready are =
      (in_place place line new (new_line place line.0 new.0 ready.0 are.0.line) are.0.end, all_in_place (place + 1) lines own ready.1 are.1)

  -- the new line is read as the mended words
  new_read : (place : ℕ) (line new : List ℕ) → (is : IsNewBlock edits place line new) → IsSound (block_at new) → block_at new ≡ Ok (Some (record { width = is.block.width; words = is.own }))
  new_read place line new is sound = by (block_at new) refl sound
    where
      digit : is_digit (slice_index is.row 0) ≡ true
      digit = row_begins is.block.width is.own is.row is.spells

      no_blank : (width : Width) (spaces : ℕ) → mark width ++ is.row ≡ replicate spaces 32 → ⊥
      no_blank Eight zero e = let never : is_digit 0 ≡ true = sym (ap (λ row. is_digit (slice_index row 0)) e) ∙ digit in false≢true never
      no_blank Eight (suc spaces) e = let never : is_digit 32 ≡ true = sym (ap (λ row. is_digit (slice_index row 0)) e) ∙ digit in false≢true never
      no_blank Sixteen zero e = cc e
      no_blank Sixteen (suc spaces) e = let never : 42 ≡ 32 = ap (λ row. slice_index row 0) e in omega (arith, never)

      by : (found : ParsedLine) → block_at new ≡ found → IsSound found → found ≡ Ok (Some (record { width = is.block.width; words = is.own }))
      by (Err fault) e sound = absurd sound
      by (Ok None) e sound = let blank = (laws.blanks new).0 e in absurd (no_blank is.block.width blank.0 (sym is.made ∙ blank.2))
      by (Ok (Some block)) e sound =
          let own : IsBlock (mark is.block.width ++ is.row) block = subst (λ line. IsBlock line block) is.made ((laws.blocks new block).0 e) in
          ap (λ block. Ok (Some block)) (only_block laws.words is.block.width is.own is.row block is.spells own)

-- how a mended line is read: as blank as it was, or as a block of the mended words
pub record IsPair (edits : List Edit) (place : ℕ) (old new : ParsedLine) : Type 0 where
  pub block : BlockParts
  pub own : List Parts
  pub old_is : old ≡ Ok (Some block)
  pub new_is : new ≡ Ok (Some (record { width = block.width; words = own }))
  pub words : mended_words edits place block ≡ Ok own
  pub fit : IsFit edits place block.words

abbrev pub ArePaired : List Edit → ℕ → ParsedLine → ParsedLine → Type 0
ArePaired edits place old new = ((old ≡ Ok None) × (new ≡ Ok None)) ⊎ IsPair edits place old new

abbrev pub AllPaired : List Edit → ℕ → List ParsedLine → List ParsedLine → Type 0
AllPaired edits place [] [] = Unit {0}
AllPaired edits place [] (new ∷ news) = ⊥
AllPaired edits place (old ∷ olds) [] = ⊥
AllPaired edits place (old ∷ olds) (new ∷ news) = ArePaired edits place old new × AllPaired edits (place + 1) olds news

module _ (laws : Laws) (edits : List Edit) where
  one_pair : (place : ℕ) (line new : List ℕ) → IsReady edits place (block_at line) → IsSound (block_at new) → IsNewLine edits place line new → ArePaired edits place (block_at line) (block_at new)
  one_pair place line new ready sound (inl (blank, same)) = inl (blank, ap block_at same ∙ blank)
  one_pair place line new ready sound (inr is) = inr (record {
    block = is.block;
    own = is.own;
    old_is = is.was;
    new_is = new_read laws edits place line new is sound;
    words = is.words;
    fit = ready.fit is.block is.was;
  })

  pub all_pairs : (place : ℕ) (lines own : List Ended) → AllReady edits place (map block_at (lines_in lines)) → AllSound (map block_at (lines_in own)) → AreMended edits place lines own
      → AllPaired edits place (map block_at (lines_in lines)) (map block_at (lines_in own))
  all_pairs place [] [] ready sound are = tt
  all_pairs place [] (new ∷ own) ready sound are = absurd are
  all_pairs place (line ∷ lines) [] ready sound are = absurd are
  all_pairs place (line ∷ lines) (new ∷ own) ready sound are =
      (one_pair place line.0 new.0 ready.0 sound.0 (new_line laws edits place line.0 new.0 ready.0 are.0.line), all_pairs (place + 1) lines own ready.1 sound.1 are.1)

-- the pair at a place
pub pair_at : (edits : List Edit) (place : ℕ) (olds news : List ParsedLine) (k : ℕ) → AllPaired edits place olds news → k < length olds → ArePaired edits (place + k) (line_at olds k) (line_at news k)
pair_at edits place [] news k are within = absurd (omega arith)
pair_at edits place (old ∷ olds) [] k are within = absurd are
pair_at edits place (old ∷ olds) (new ∷ news) zero are within = subst (λ own. ArePaired edits own old new) (let same : place ≡ place + 0 = omega arith in same) are.0
pair_at edits place (old ∷ olds) (new ∷ news) (suc k) are within =
    subst (λ own. ArePaired edits own (line_at olds k) (line_at news k)) (let same : (place + 1) + k ≡ place + suc k = omega arith in same) (pair_at edits (place + 1) olds news k are.1 (omega arith))

pub pairs_long : (edits : List Edit) (place : ℕ) (olds news : List ParsedLine) → AllPaired edits place olds news → length news ≡ length olds
pairs_long edits place [] [] are = refl
pairs_long edits place [] (new ∷ news) are = absurd are
pairs_long edits place (old ∷ olds) [] are = absurd are
pairs_long edits place (old ∷ olds) (new ∷ news) are = ap suc (pairs_long edits (place + 1) olds news are.1)
