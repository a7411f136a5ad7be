use Rattle.th_meant.proofs.LawLemmas.{one_named}
use Rattle.th_meant.proofs.laws.named_are_one.Goals as goal

pub returns : goal.returns
returns c = one_named
