use Rattle.th_picture.proofs.Heights.{in_order}
use Rattle.th_picture.proofs.laws.heights_are_in_order.Goals as goal

pub returns : goal.returns
returns c = in_order
