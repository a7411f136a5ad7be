use Rattle.gsi_block.proofs.BlocksLaw.{blank_line}
use Rattle.gsi_block.proofs.laws.block_at_passes_spaces.Goals as goal

pub returns : goal.returns
returns c = blank_line
