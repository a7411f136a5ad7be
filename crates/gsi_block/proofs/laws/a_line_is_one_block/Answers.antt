use Rattle.std.proofs.Common.{◌≡◌, Some, Ok, sym, ◌∙◌}
use Rattle.gsi_block.proofs.BlocksLaw.{block_line-IsBlock}
use Rattle.gsi_block.proofs.laws.a_line_is_one_block.Goals as goal

pub returns : goal.returns
returns c = λ line one other is too.
    let read = block_line-IsBlock c.word_at_reads_spellings.ensures line in
    let same : Ok (Some one) ≡ Ok (Some other) = sym ((read one).1 is) ∙ (read other).1 too in
    cc
