-- A block as it is written, and that it is read as the block.
use Rattle.std.proofs.Common.{◌≡◌, ℕ, ◌*◌, ◌<◌, ◌≤◌, List, [], ◌∷◌, length, refl, sym, ap, subst, append_assoc, append-nil, length-append, slice_get, Some, arith}
use Rattle.std.specs.List.{flat_map}
use Rattle.gsi_word.specs.Words.{Parts, Spells, closed, data_len, spelling_of}
use Rattle.gsi_word.specs.declared.words.Width.{Width}
use Rattle.gsi_word.specs.declared.words.Width.TheVariants.{Eight, Sixteen}
use Rattle.gsi_block.specs.Blocks.{BlockParts, IsBlock, IsBlockOf, SpellsRow, mark}
use Rattle.gsi_block.specs.Spelled.{AreSpelled}
use Rattle.gsi_block.specs.Writing.{block_line}
use Rattle.gsi_block.proofs.RowsLaw.{row_some}

-- a word has one spelling at most
abbrev pub WordHasOneSpelling : Type 0
WordHasOneSpelling = (word : Parts) (bytes : List ℕ) (width : Width) → Spells word bytes width → bytes ≡ spelling_of word

-- how many bytes a closed word has
pub length-closed : (word : Parts) (width : Width) → Spells word (spelling_of word) width → length (closed word) ≤ 24
length-closed word Eight spells = omega (arith, spells.length, length-append (spelling_of word) (32 ∷ []))
length-closed word Sixteen spells = omega (arith, spells.length, length-append (spelling_of word) (32 ∷ []))

-- how many bytes closed words have
length-written : (width : Width) (words : List Parts) → AreSpelled width words → length (flat_map closed words) ≤ 24 * length words
length-written width [] are = omega arith
length-written width (word ∷ words) are =
    omega (arith, length-closed word width are.0, length-written width words are.1, length-append (closed word) (flat_map closed words))

-- closed words are a row
row-written : (width : Width) (words : List Parts) → 0 < length words → AreSpelled width words → SpellsRow width words (flat_map closed words)
row-written width [] some are = absurd (omega arith)
row-written width (word ∷ []) some are = (spelling_of word, 32 ∷ [], are.0, refl, append-nil (closed word))
row-written width (word ∷ next ∷ words) some are =
    (spelling_of word, flat_map closed (next ∷ words), are.0, row-written width (next ∷ words) (omega arith) are.1, append_assoc (spelling_of word) (32 ∷ []) (flat_map closed (next ∷ words)))

-- what stands before the words is one byte at most
length-mark : (width : Width) → length (mark width) ≤ 1
length-mark Eight = omega arith
length-mark Sixteen = omega arith

-- the line of 1 to 64 words that are spelled in a width is a block of them
pub IsBlock-block_line : (block : BlockParts) → 0 < length block.words → length block.words ≤ 64 → AreSpelled block.width block.words → IsBlock (block_line block) block
IsBlock-block_line block some few are = record {
  short = omega (arith, length-append (mark block.width) (flat_map closed block.words), length-mark block.width, length-written block.width block.words are);
  few = few;
  row = (flat_map closed block.words, refl, row-written block.width block.words some are);
}

-- the words of a row are spelled in its width
pub AreSpelled-row : WordHasOneSpelling → (width : Width) (words : List Parts) (bytes : List ℕ) → SpellsRow width words bytes → AreSpelled width words
AreSpelled-row one width [] bytes row = absurd row
AreSpelled-row one width (word ∷ []) bytes (spelling, spaces, spells, blank, made) =
    (rw (← one word spelling width spells) spells, tt)
AreSpelled-row one width (word ∷ next ∷ words) bytes (spelling, rest, spells, row, made) =
    (rw (← one word spelling width spells) spells, AreSpelled-row one width (next ∷ words) rest row)

-- the line that a block is written as is a block of its words
pub IsBlock-written : WordHasOneSpelling → (line : List ℕ) (block : BlockParts) → IsBlock line block → IsBlock (block_line block) block
IsBlock-written one line block is =
    IsBlock-block_line block (row_some block.width block.words is.row.0 is.row.2) is.few (AreSpelled-row one block.width block.words is.row.0 is.row.2)

-- the widths are told by how many bytes of data a word has
width_back : (one other : Width) → data_len one ≡ data_len other → one ≡ other
width_back Eight Eight e = refl
width_back Eight Sixteen e = absurd (omega arith)
width_back Sixteen Eight e = absurd (omega arith)
width_back Sixteen Sixteen e = refl

-- no line has words of which one is not spelled in the width of the first
pub no_block : WordHasOneSpelling → (width : Width) (words : List Parts) (word : Parts) → slice_get words 0 ≡ Some word → Spells word (spelling_of word) width → ¬ AreSpelled width words → (block : BlockParts) → ¬ IsBlockOf words block
no_block one width [] word at spells not block is = absurd cc
no_block one width (next ∷ words) word at spells not block (same, (line, is)) =
    let InWidthOfBlock : List Parts → Type 0 = λ words. AreSpelled block.width words in
    let are : AreSpelled block.width (next ∷ words) = subst InWidthOfBlock same (AreSpelled-row one block.width block.words is.row.0 is.row.2) in
    let first : word ≡ next = cc in
    let long : length (spelling_of word) ≡ length (spelling_of next) = ap (λ word. length (spelling_of word)) first in
    let widths : width ≡ block.width = width_back width block.width (omega (arith, spells.length, are.0.length)) in
    let InWidth : Width → Type 0 = λ width. AreSpelled width (next ∷ words) in
    not (subst InWidth (sym widths) are)
