use Rattle.std.proofs.Common.{refl}
use Rattle.gsi_word.specs.Words.{parts_of}
use Rattle.gsi_block.specs.Blocks.{block_parts}
use Rattle.th_report.proofs.WordLemmas.{block_of_two, two_words, two_words-only}
use Rattle.th_report.proofs.gsi.block_of.Goals as goal

pub unreachable-requires : goal.unreachable-requires
unreachable-requires c =
    let first = parts_of c.args.first.now in
    let second = parts_of c.args.second.now in
    c.in-None.ensures.none refl (block_of_two first second) (two_words first second c.requires.first c.requires.second)

pub returns : goal.returns
returns c = two_words-only (parts_of c.args.first.now) (parts_of c.args.second.now) (block_parts c.in-Some.block) c.requires.first c.in-Some.ensures.some
