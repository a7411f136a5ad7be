use Rattle.th_mend.proofs.ForceLemmas.{in_force-sight}
use Rattle.th_mend.proofs.laws.entry_in_force_is_that_of_the_sight.Goals as goal

pub returns : goal.returns
returns c = in_force-sight
