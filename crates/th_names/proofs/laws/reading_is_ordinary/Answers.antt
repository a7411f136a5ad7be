use Rattle.th_names.proofs.ReadingLemmas.{ordinary}
use Rattle.th_names.proofs.laws.reading_is_ordinary.Goals as goal

pub returns : goal.returns
returns c = ordinary
