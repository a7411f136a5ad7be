use Rattle.th_picture.proofs.Distances.{names_apart}
use Rattle.th_picture.proofs.laws.names_do_not_touch.Goals as goal

pub returns : goal.returns
returns c = names_apart
