use Rattle.std.specs.Prelude.{ℕ, List, [], ◌∷◌, ◌++◌}
use Rattle.std.specs.List.{flat_map}
use Rattle.gsi_word.specs.Words.{closed}
use Rattle.gsi_block.specs.Blocks.{BlockParts, mark}

-- the line of a block: the mark of its width, and each word closed by a space
abbrev pub block_line : BlockParts → List ℕ
block_line block = mark block.width ++ flat_map closed block.words

-- a block as it is written: its line, CR and LF
abbrev pub block_text : BlockParts → List ℕ
block_text block = block_line block ++ 13 ∷ 10 ∷ []
