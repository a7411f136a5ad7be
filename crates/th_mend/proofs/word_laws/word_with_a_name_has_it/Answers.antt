use Rattle.th_mend.proofs.NameLemmas.{with_name_named}
use Rattle.th_mend.proofs.word_laws.word_with_a_name_has_it.Goals as goal

pub returns : goal.returns
returns c = with_name_named
