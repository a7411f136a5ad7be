use Rattle.th_mend.proofs.LengthLemmas.{added_word_read}
use Rattle.th_mend.proofs.word_laws.added_word_writes_its_length.Goals as goal

pub returns : goal.returns
returns c = added_word_read
