use Rattle.th_entries.proofs.WordLemmas.{written-behind, written-length}
use Rattle.th_entries.proofs.laws.words_of_an_entry_have_its_height.Goals as goal

pub returns-clause-height : goal.returns-clause-height
returns-clause-height c = written-length

pub returns-clause-behind : goal.returns-clause-behind
returns-clause-behind c = written-behind
