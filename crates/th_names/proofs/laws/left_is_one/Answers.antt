use Rattle.th_names.proofs.ReadingLemmas.{left_same}
use Rattle.th_names.proofs.laws.left_is_one.Goals as goal

pub returns : goal.returns
returns c = left_same
