use Rattle.th_units.proofs.MetreTexts.{value-metres}
use Rattle.th_units.proofs.laws.value_of_metres_is_the_length.Goals as goal

pub returns : goal.returns
returns c = value-metres
