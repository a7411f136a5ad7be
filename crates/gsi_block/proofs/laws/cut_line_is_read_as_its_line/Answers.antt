use Rattle.gsi_block.proofs.CutLines.{block_at-cut_line}
use Rattle.gsi_block.proofs.laws.cut_line_is_read_as_its_line.Goals as goal

pub returns : goal.returns
returns c = block_at-cut_line
