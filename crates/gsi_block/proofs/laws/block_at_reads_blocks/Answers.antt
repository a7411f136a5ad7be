use Rattle.gsi_block.proofs.BlocksLaw.{block_line-IsBlock}
use Rattle.gsi_block.proofs.laws.block_at_reads_blocks.Goals as goal

pub returns : goal.returns
returns c = block_line-IsBlock c.word_at_reads_spellings.ensures
