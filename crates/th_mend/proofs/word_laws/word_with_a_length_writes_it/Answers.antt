use Rattle.th_mend.proofs.LengthLemmas.{with_length_read}
use Rattle.th_mend.proofs.word_laws.word_with_a_length_writes_it.Goals as goal

pub returns : goal.returns
returns c = with_length_read
