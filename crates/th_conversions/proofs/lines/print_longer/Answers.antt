use Rattle.std.proofs.Common.{subst, sym}
use Rattle.gsi_block.specs.Blocks.{block_parts}
use Rattle.gsi_block.specs.Spelled.{AreSpelled}
use Rattle.th_conversions.proofs.HeightWordLemmas.{longer_spelled}
use Rattle.th_conversions.proofs.lines.print_longer.Goals as goal

pub print_words-requires-clause-spelled : goal.print_words-requires-clause-spelled
print_words-requires-clause-spelled c =
    let spelled = subst (AreSpelled (block_parts c.args.block.now).width) (sym c.longer-words.ensures.words) (longer_spelled (block_parts c.args.block.now) c.args.heights.now c.args.written.now c.args.block.now.spelled) in
    rw (c.as_slice.ensures.value, c.width.ensures) spelled
