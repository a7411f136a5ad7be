use Rattle.std.specs.Prelude.{◌≡◌, ℕ, ◌+◌, ◌==◌, ◌≤◌, Bool, IsTrue, List, [], ◌∷◌, ◌++◌, length, map, Option, Some, None, Result, Ok, Err, if◌then◌else◌, nat_lt, slice_index, drop, replicate, zero, suc}
use Rattle.std.specs.List.{list_all}
use Rattle.gsi_word.specs.Bytes.{is_space}
use Rattle.gsi_word.specs.Words.{Parts, Spells, parts_of, result_map, spelling_len, word_at}
use Rattle.gsi_word.specs.declared.words.Width.{Width}
use Rattle.gsi_word.specs.declared.words.Width.TheVariants.{Eight, Sixteen}
use Rattle.gsi_word.specs.declared.faults.WordFault.TheVariants.{Short}
use Rattle.gsi_word.specs.declared.faults.WordFault.{WordFault}
use Rattle.gsi_word.specs.declared.words.Word.{Word}
use Rattle.gsi_block.specs.Limits.{max_line, max_words}
use Rattle.gsi_block.specs.declared.blocks.Block.{Block}
use Rattle.gsi_block.specs.declared.faults.BlockFault.{BlockFault}
use Rattle.gsi_block.specs.declared.faults.BlockFault.TheVariants.{BadWord, TooManyWords, LineTooLong, BadSeparator}

-- a line as a block: the width of its words, and the parts of each word from left to right
pub record BlockParts : Type 0 where
  pub width : Width
  pub words : List Parts

-- the block with these words and this width
abbrev pub block_with : List Word → Width → BlockParts
block_with words width = record { width = width; words = map parts_of words }

-- the parts of a `Block`
abbrev pub block_parts : Block → BlockParts
block_parts block = block_with block.words.items block.width

-- a star, the mark of a GSI-16 block
abbrev pub is_star : ℕ → Bool
is_star byte = byte == 42

-- only spaces, or empty
abbrev pub is_blank : List ℕ → Bool
is_blank bytes = list_all is_space bytes

-- Word `k`, followed by nothing, by spaces alone, or by one space and further words directly
-- after it. A fault of the word itself comes before a fault of what follows it.
abbrev pub word_and_further : ℕ → Result Parts WordFault → List ℕ → Result (List Parts) BlockFault → Result (List Parts) BlockFault
word_and_further k (Err fault) after further = Err (BadWord k fault)
word_and_further k (Ok word) after further =
    if is_blank after then Ok (word ∷ [])
    else (if is_space (slice_index after 0) then result_map (λ words. word ∷ words) further
    else Err (BadSeparator k))

-- The words from word `k` on, which begins at the first byte, with room for `room` words; or the first fault from the left. With no room left, any
-- bytes are too many words, whatever they spell. A word is short if fewer bytes are left than its spelling has, spaces included.
unfoldable pub words_from : ℕ → Width → ℕ → List ℕ → Result (List Parts) BlockFault
words_from zero width k bytes = Err TooManyWords
words_from (suc room) width k bytes =
    let after = drop (spelling_len width) bytes in
    word_and_further k (word_at width bytes) after (words_from room width (k + 1) (drop 1 after))

-- the block whose words these bytes spell, word 1 at the first byte
abbrev pub block_of : Width → List ℕ → Result (Option BlockParts) BlockFault
block_of width bytes = result_map (λ words. Some (record { width = width; words = words })) (words_from max_words width 1 bytes)

-- The block of a line, or none if the line is blank. A line that is too long is refused first, even if it is all spaces. A star as the first byte means
-- that the words are GSI-16, else they are GSI-8. A star followed by nothing or only spaces is too short for a word, however many spaces there are.
abbrev pub block_at : List ℕ → Result (Option BlockParts) BlockFault
block_at line =
    if nat_lt max_line (length line) then Err LineTooLong
    else (if is_blank line then Ok None
    else (if is_star (slice_index line 0) then (if is_blank (drop 1 line) then Err (BadWord 1 Short) else block_of Sixteen (drop 1 line))
    else block_of Eight line))

-- the line is empty, or it consists of at most 1,600 spaces
abbrev pub IsBlankLine : List ℕ → Type 0
IsBlankLine line = (spaces : ℕ) × (spaces ≤ max_line) × (line ≡ replicate spaces 32)

-- the bytes before the words: a star for GSI-16, nothing for GSI-8
abbrev pub mark : Width → List ℕ
mark Eight = []
mark Sixteen = 42 ∷ []

-- the bytes spell these words, at least one, with one space between neighbours and any number of spaces at the end
abbrev pub SpellsRow : Width → List Parts → List ℕ → Type 0
SpellsRow width [] bytes = ⊥
SpellsRow width (word ∷ []) bytes =
    (spelling : List ℕ) × (spaces : List ℕ) × Spells word spelling width × IsTrue (is_blank spaces) × (bytes ≡ spelling ++ spaces)
SpellsRow width (word ∷ next ∷ words) bytes =
    (spelling : List ℕ) × (rest : List ℕ) × Spells word spelling width × SpellsRow width (next ∷ words) rest × (bytes ≡ spelling ++ 32 ∷ rest)

-- The line is a block of these words, of which there is at least one: line and words are within
-- their limits, and the words are spelled in a row after the mark of their width.
pub record IsBlock (line : List ℕ) (block : BlockParts) : Type 0 where
  pub short : length line ≤ max_line
  pub few : length block.words ≤ max_words
  pub row : (bytes : List ℕ) × (line ≡ mark block.width ++ bytes) × SpellsRow block.width block.words bytes

-- some line is a block of these words
abbrev pub IsBlockOf : List Parts → BlockParts → Type 0
IsBlockOf words block = (block.words ≡ words) × ((line : List ℕ) × IsBlock line block)
