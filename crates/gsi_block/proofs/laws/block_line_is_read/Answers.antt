use Rattle.gsi_block.specs.Writing.{block_line}
use Rattle.gsi_block.proofs.BlocksLaw.{block_line-IsBlock}
use Rattle.gsi_block.proofs.WrittenBlocks.{IsBlock-written}
use Rattle.gsi_block.proofs.laws.block_line_is_read.Goals as goal

pub returns : goal.returns
returns c = λ line block is.
    (block_line-IsBlock c.word_at_reads_spellings.ensures (block_line block) block).1 (IsBlock-written c.spelling_of_is_the_spelling.ensures line block is)
