use Rattle.std.proofs.Common.{map, refl, arith}
use Rattle.std.proofs.lemmas.List.{length-map}
use Rattle.gsi_word.specs.Words.{parts_of}
use Rattle.th_conversions.proofs.WordLemmas.{block_there}
use Rattle.th_conversions.proofs.words.block_of.Goals as goal

pub unreachable-requires : goal.unreachable-requires
unreachable-requires c =
    let words = c.args.words.now in
    c.in-None.ensures.none refl _ (block_there (map parts_of words) (omega (arith, c.requires.some, length-map words parts_of)) (omega (arith, c.requires.few, length-map words parts_of)) c.requires.spelled)
