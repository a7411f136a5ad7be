use Rattle.gsi_word.specs.Words.{parts, spelling_of}
use Rattle.gsi_word.specs.declared.words.Width.TheVariants.{Sixteen}
use Rattle.th_report.proofs.gsi.word_of.Goals as goal

pub unreachable-requires : goal.unreachable-requires
unreachable-requires c = c.in-None.ensures (Sixteen, spelling_of (parts c.args.index c.args.info c.args.negative c.args.body.now), c.requires)
