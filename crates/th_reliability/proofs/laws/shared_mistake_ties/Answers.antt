use Rattle.th_reliability.proofs.GroupTieLemmas.{moves_too}
use Rattle.th_reliability.proofs.WordLemmas.{least}
use Rattle.th_reliability.proofs.laws.shared_mistake_ties.Goals as goal

pub returns : goal.returns
returns c = record { least = least; drags = moves_too }
