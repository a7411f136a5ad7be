use Rattle.th_report.proofs.WordLemmas.{spelled_83}
use Rattle.th_report.proofs.gsi.height_word.Goals as goal

pub word_of-requires : goal.word_of-requires
word_of-requires c = spelled_83 c.args.negative c.args.digits.now c.told-digits c.requires
