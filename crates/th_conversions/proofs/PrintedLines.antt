-- Blocks that are written as lines are read again.
use Rattle.std.proofs.Common.{◌≡◌, ◌↔◌, ◌&&◌, ℕ, Bool, true, false, IsTrue, List, [], ◌∷◌, ◌++◌, map, Some, Ok, inl, take, if◌then◌else◌, refl, sym, ap, ◌∙◌, arith}
use Rattle.std.specs.List.{AllByRecursion, flat_map, list_all}
use Rattle.std.proofs.lemmas.Bool.{false≢true}
use Rattle.std.proofs.lemmas.Bool.Decides.{nat_tests}
use Rattle.std.proofs.lemmas.List.Folds.{list_all-append}
use Rattle.th_units.specs.Lengths.{is_digit}
use Rattle.gsi_word.specs.Bytes.{is_data, is_info}
use Rattle.gsi_word.specs.Words.{Parts, Spells, closed, spelling_of}
use Rattle.gsi_word.specs.declared.words.Width.{Width}
use Rattle.gsi_word.specs.declared.words.Width.TheVariants.{Eight, Sixteen}
use Rattle.gsi_block.specs.Blocks.{BlockParts, IsBlock, block_at, mark}
use Rattle.gsi_block.specs.Lines.{AreLines, is_in_line, lines_of}
use Rattle.gsi_block.specs.Spelled.{AreSpelled}
use Rattle.gsi_block.specs.Writing.{block_line, block_text}
use Rattle.gsi_block.proofs.WrittenBlocks.{IsBlock-block_line}
use Rattle.th_book.specs.Lines.{ParsedLine}
use Rattle.th_conversions.proofs.WordLemmas.{IsProper}

-- both of two tests
pub both : (a b : Bool) → (a && b) ≡ true → (a ≡ true) × (b ≡ true)
both true true h = (refl, refl)
both true false h = absurd (false≢true h)
both false b h = absurd (false≢true h)

-- bytes that pass a test which no line end passes
in_line : (allowed : ℕ → Bool) → ((byte : ℕ) → allowed byte ≡ true → is_in_line byte ≡ true) → (bytes : List ℕ) → list_all allowed bytes ≡ true → list_all is_in_line bytes ≡ true
in_line allowed inside [] all = refl
in_line allowed inside (byte ∷ bytes) all =
    let tests = both (allowed byte) (list_all allowed bytes) all in
    ap (λ b. b && list_all is_in_line bytes) (inside byte tests.0) ∙ in_line allowed inside bytes tests.1

digit_inside : (byte : ℕ) → is_digit byte ≡ true → is_in_line byte ≡ true
digit_inside byte is = grind (arith, nat_tests)

info_inside : (byte : ℕ) → is_info byte ≡ true → is_in_line byte ≡ true
info_inside byte is = grind (arith, nat_tests)

data_inside : (byte : ℕ) → is_data byte ≡ true → is_in_line byte ≡ true
data_inside byte is = grind (arith, nat_tests)

-- two parts of a line
joined : (front back : List ℕ) → list_all is_in_line front ≡ true → list_all is_in_line back ≡ true → list_all is_in_line (front ++ back) ≡ true
joined front back a b = list_all-append is_in_line front back ∙ ap (λ first. first && list_all is_in_line back) a ∙ b

-- a word that has a spelling, with the space that closes it
word_inside : (word : Parts) (width : Width) → Spells word (spelling_of word) width → list_all is_in_line (closed word) ≡ true
word_inside word width is =
    let rest = (if word.negative then 45 else 43) ∷ word.body in
    joined (spelling_of word) (32 ∷ [])
    (joined (take 2 (spelling_of word)) (word.info ++ rest) (in_line is_digit digit_inside (take 2 (spelling_of word)) is.index_digits)
    (joined word.info rest (in_line is_info info_inside word.info is.info_bytes) (by word.negative))) refl
  where
    by : (minus : Bool) → list_all is_in_line ((if minus then 45 else 43) ∷ word.body) ≡ true
    by true = in_line is_data data_inside word.body is.body_bytes
    by false = in_line is_data data_inside word.body is.body_bytes

words_inside : (width : Width) (words : List Parts) → AreSpelled width words → list_all is_in_line (flat_map closed words) ≡ true
words_inside width [] are = refl
words_inside width (word ∷ words) are = joined (closed word) (flat_map closed words) (word_inside word width are.0) (words_inside width words are.1)

line_inside : (block : BlockParts) → AreSpelled block.width block.words → list_all is_in_line (block_line block) ≡ true
line_inside block are = joined (mark block.width) (flat_map closed block.words) (by block.width) (words_inside block.width block.words are)
  where
    by : (width : Width) → list_all is_in_line (mark width) ≡ true
    by Eight = refl
    by Sixteen = refl

-- the lines of written blocks
lines_there : (blocks : List BlockParts) → AllByRecursion IsProper blocks → AreLines (map block_line blocks) (flat_map block_text blocks)
lines_there [] each = refl
lines_there (block ∷ blocks) each =
    let inside : IsTrue (list_all is_in_line (block_line block)) = line_inside block each.0.spelled in
    (inside, (13 ∷ 10 ∷ [], flat_map block_text blocks, refl, lines_there blocks each.1, inl (inl refl)))

-- a parsed line that is a block
abbrev pub parsed_as : BlockParts → ParsedLine
parsed_as block = Ok (Some block)

module _ (reads : (line : List ℕ) (block : BlockParts) → IsBlock line block → block_at (block_line block) ≡ Ok (Some block)) where
  each_read : (blocks : List BlockParts) → AllByRecursion IsProper blocks → map block_at (map block_line blocks) ≡ map parsed_as blocks
  each_read [] each = refl
  each_read (block ∷ blocks) each =
      ap (λ first. first ∷ map block_at (map block_line blocks)) (reads (block_line block) block (IsBlock-block_line block each.0.some each.0.few each.0.spelled))
      ∙ ap (λ later. parsed_as block ∷ later) (each_read blocks each.1)

  -- blocks that are written are read again, line for line
  pub blocks_read : ((text : List ℕ) (lines : List (List ℕ)) → (lines ≡ lines_of text) ↔ AreLines lines text) → (blocks : List BlockParts) → AllByRecursion IsProper blocks
      → map block_at (lines_of (flat_map block_text blocks)) ≡ map parsed_as blocks
  blocks_read lines blocks each =
      ap (map block_at) (sym ((lines (flat_map block_text blocks) (map block_line blocks)).1 (lines_there blocks each))) ∙ each_read blocks each
