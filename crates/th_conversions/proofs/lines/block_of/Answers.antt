use Rattle.std.proofs.Common.{map, refl, arith}
use Rattle.std.proofs.lemmas.List.{length-map}
use Rattle.gsi_word.specs.Words.{parts_of}
use Rattle.th_conversions.proofs.BlockLemmas.{block_only, block_there}
use Rattle.th_conversions.proofs.lines.block_of.Goals as goal

pub unreachable-requires : goal.unreachable-requires
unreachable-requires c =
    let words = c.args.words.now in
    c.in-None.ensures.none refl _
    (block_there c.args.width (map parts_of words) (omega (arith, c.requires.some, length-map words parts_of)) (omega (arith, c.requires.few, length-map words parts_of)) c.requires.spelled)

pub returns : goal.returns
returns c =
    let words = c.args.words.now in
    block_only c.spelling_of_is_the_spelling.ensures c.args.width (map parts_of words) _ (omega (arith, c.requires.some, length-map words parts_of)) c.requires.spelled c.in-Some.ensures.some
