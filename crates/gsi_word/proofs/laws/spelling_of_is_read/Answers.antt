use Rattle.gsi_word.proofs.WrittenWords.{word_at-spelling_of}
use Rattle.gsi_word.proofs.laws.spelling_of_is_read.Goals as goal

pub returns : goal.returns
returns c = word_at-spelling_of
