use Rattle.th_meant.proofs.LawLemmas.{meant_named}
use Rattle.th_meant.proofs.laws.meant_height_is_named.Goals as goal

pub returns : goal.returns
returns c = meant_named
