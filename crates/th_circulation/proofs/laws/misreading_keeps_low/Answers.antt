use Rattle.th_circulation.proofs.MisreadLemmas.{misread_keeps_low}
use Rattle.th_circulation.proofs.laws.misreading_keeps_low.Goals as goal

pub returns : goal.returns
returns c = misread_keeps_low
