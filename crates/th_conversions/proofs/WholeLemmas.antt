-- The lines of a printed book have no end in them.
use Rattle.std.proofs.Common.{◌≡◌, ◌↔◌, ◌++◌, ◌∷◌, [], ◌&&◌, ◌+◌, ℕ, Bool, true, false, IsTrue, List, Option, Some, None, Ok, Err, if◌then◌else◌, take, refl, sym, subst, ap, ◌∙◌, arith}
use Rattle.std.specs.List.{flat_map, list_all}
use Rattle.std.specs.Prelude.{Result}
use Rattle.std.proofs.lemmas.Bool.{false≢true}
use Rattle.std.proofs.lemmas.Bool.Decides.{nat_tests}
use Rattle.std.proofs.lemmas.List.Folds.{list_all-append}
use Rattle.th_units.specs.Lengths.{is_digit}
use Rattle.gsi_word.specs.Bytes.{is_data, is_info}
use Rattle.gsi_word.specs.Words.{Parts, Spells, closed, spelling_of}
use Rattle.gsi_word.specs.declared.words.Width.{Width}
use Rattle.gsi_word.specs.declared.words.Width.TheVariants.{Eight, Sixteen}
use Rattle.gsi_block.specs.Blocks.{BlockParts, IsBlock, block_at, mark}
use Rattle.gsi_block.specs.Lines.{is_in_line}
use Rattle.gsi_block.specs.Spelled.{AreSpelled}
use Rattle.gsi_block.specs.Writing.{block_line}
use Rattle.gsi_block.proofs.WrittenBlocks.{AreSpelled-row, WordHasOneSpelling}
use Rattle.th_book.specs.Lines.{ParsedLine}
use Rattle.th_conversions.specs.declared.height_faults.HeightKind.{HeightKind}
use Rattle.th_conversions.specs.Printed.{Step, parsed_line, printed_from, printed_line, sight_line, sound_line, then_lines, unless_faulty}
use Rattle.th_conversions.specs.Running.{running_after, with_heights}
use Rattle.th_conversions.specs.Sights.{height_fault, is_height_sight}
use Rattle.th_conversions.specs.declared.running.Running.{Running}
use Rattle.th_conversions.proofs.SightLemmas.{sight_printed, words_of}
use Rattle.th_conversions.proofs.TextLemmas.{AreWhole}
use Rattle.th_conversions.proofs.HeightWordLemmas.{longer_spelled}

-- both of two tests
pub both : (a b : Bool) → (a && b) ≡ true → (a ≡ true) × (b ≡ true)
both true true h = (refl, refl)
both true false h = absurd (false≢true h)
both false b h = absurd (false≢true h)

-- bytes that pass a test which no line end passes
in_line : (allowed : ℕ → Bool) → ((byte : ℕ) → allowed byte ≡ true → is_in_line byte ≡ true) → (bytes : List ℕ) → list_all allowed bytes ≡ true → list_all is_in_line bytes ≡ true
in_line allowed inside [] all = refl
in_line allowed inside (byte ∷ bytes) all =
    let tests = both (allowed byte) (list_all allowed bytes) all in
    ap (λ b. b && list_all is_in_line bytes) (inside byte tests.0) ∙ in_line allowed inside bytes tests.1

digit_inside : (byte : ℕ) → is_digit byte ≡ true → is_in_line byte ≡ true
digit_inside byte is = grind (arith, nat_tests)

info_inside : (byte : ℕ) → is_info byte ≡ true → is_in_line byte ≡ true
info_inside byte is = grind (arith, nat_tests)

data_inside : (byte : ℕ) → is_data byte ≡ true → is_in_line byte ≡ true
data_inside byte is = grind (arith, nat_tests)

-- two parts of a line
joined : (front back : List ℕ) → list_all is_in_line front ≡ true → list_all is_in_line back ≡ true → list_all is_in_line (front ++ back) ≡ true
joined front back a b = list_all-append is_in_line front back ∙ ap (λ first. first && list_all is_in_line back) a ∙ b

-- a word that has a spelling, with the space that closes it
word_inside : (word : Parts) (width : Width) → Spells word (spelling_of word) width → list_all is_in_line (closed word) ≡ true
word_inside word width is =
    let rest = (if word.negative then 45 else 43) ∷ word.body in
    joined (spelling_of word) (32 ∷ [])
    (joined (take 2 (spelling_of word)) (word.info ++ rest) (in_line is_digit digit_inside (take 2 (spelling_of word)) is.index_digits)
    (joined word.info rest (in_line is_info info_inside word.info is.info_bytes) (by word.negative))) refl
  where
    by : (minus : Bool) → list_all is_in_line ((if minus then 45 else 43) ∷ word.body) ≡ true
    by true = in_line is_data data_inside word.body is.body_bytes
    by false = in_line is_data data_inside word.body is.body_bytes

words_inside : (width : Width) (words : List Parts) → AreSpelled width words → list_all is_in_line (flat_map closed words) ≡ true
words_inside width [] are = refl
words_inside width (word ∷ words) are = joined (closed word) (flat_map closed words) (word_inside word width are.0) (words_inside width words are.1)

line_inside : (block : BlockParts) → AreSpelled block.width block.words → list_all is_in_line (block_line block) ≡ true
line_inside block are = joined (mark block.width) (flat_map closed block.words) (by block.width) (words_inside block.width block.words are)
  where
    by : (width : Width) → list_all is_in_line (mark width) ≡ true
    by Eight = refl
    by Sixteen = refl

-- a line that is printed as it is
abbrev unchanged : List ℕ → Option Running → Result Step HeightKind
unchanged line next = Ok (line, next)

module _ (blocks : (line : List ℕ) (block : BlockParts) → (block_at line ≡ Ok (Some block)) ↔ IsBlock line block) (one : WordHasOneSpelling) where
  -- a line that is printed
  step_whole : (line : List ℕ) (running : Option Running) (step : Step) → IsTrue (list_all is_in_line line) → printed_line running line ≡ Ok step → IsTrue (list_all is_in_line step.0)
  step_whole line running step whole printed = by_parsed (block_at line) refl printed
    where
      kept : (next : Option Running) → unchanged line next ≡ Ok step → IsTrue (list_all is_in_line step.0)
      kept next is =
          let same : (line, next) ≡ step = cc in
          subst (λ (own : List ℕ). IsTrue (list_all is_in_line own)) (ap (λ (s : Step). s.0) same) whole

      by_sound : (block : BlockParts) → block_at line ≡ Ok (Some block) → (sight : Bool) → (if sight then sight_line running block else Ok (line, running_after running block.words)) ≡ Ok step → IsTrue (list_all is_in_line step.0)
      by_sound block is true printed =
          let sight = sight_printed running block step printed in
          let row = ((blocks line block).0 is).row in
          subst (λ (own : List ℕ). IsTrue (list_all is_in_line own)) (sym sight.line)
          (line_inside (record { width = block.width; words = words_of block sight.setup sight.written })
          (longer_spelled block (with_heights block.words sight.setup) sight.written (AreSpelled-row one block.width block.words row.0 row.2)))
      by_sound block is false printed = kept (running_after running block.words) printed

      by_fault : (block : BlockParts) → block_at line ≡ Ok (Some block) → (fault : Option HeightKind) → unless_faulty fault (sound_line running line block) ≡ Ok step → IsTrue (list_all is_in_line step.0)
      by_fault block is (Some kind) printed = absurd (cc printed)
      by_fault block is None printed = by_sound block is (is_height_sight block.words) printed

      by_parsed : (parsed : ParsedLine) → block_at line ≡ parsed → parsed_line running line parsed ≡ Ok step → IsTrue (list_all is_in_line step.0)
      by_parsed (Err fault) is printed = absurd (cc printed)
      by_parsed (Ok None) is printed = kept running printed
      by_parsed (Ok (Some block)) is printed = by_fault block is (height_fault block.words) printed

  -- and all lines that are printed
  pub printed_whole : (lines : List (List ℕ)) (running : Option Running) (place : ℕ) → AreWhole lines → AreWhole (printed_from running place lines).0
  printed_whole [] running place whole = tt
  printed_whole (line ∷ lines) running place whole =
      by (printed_line running line) refl (λ next. printed_whole lines next (place + 1) whole.1)
    where
      by : (step : Result Step HeightKind) → printed_line running line ≡ step → ((next : Option Running) → AreWhole (printed_from next (place + 1) lines).0)
          → AreWhole (then_lines place step (λ next. printed_from next (place + 1) lines)).0
      by (Err kind) is later = tt
      by (Ok step) is later = (step_whole line running step whole.0 is, later step.1)
