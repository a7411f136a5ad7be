use Rattle.gsi_word.proofs.SpellingLaw.{Spells-word_at, word_at-Spells}
use Rattle.gsi_word.proofs.laws.word_at_reads_spellings.Goals as goal

pub returns : goal.returns
returns c = λ width bytes word. (Spells-word_at width bytes word, word_at-Spells width bytes word)
