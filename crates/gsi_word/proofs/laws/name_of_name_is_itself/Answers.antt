use Rattle.gsi_word.proofs.NameLemmas.{name_of-name}
use Rattle.gsi_word.proofs.laws.name_of_name_is_itself.Goals as goal

pub returns : goal.returns
returns c = name_of-name
