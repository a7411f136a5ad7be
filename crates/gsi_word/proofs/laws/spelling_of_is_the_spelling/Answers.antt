use Rattle.gsi_word.proofs.WrittenWords.{spelling_of-Spells}
use Rattle.gsi_word.proofs.laws.spelling_of_is_the_spelling.Goals as goal

pub returns : goal.returns
returns c = spelling_of-Spells
