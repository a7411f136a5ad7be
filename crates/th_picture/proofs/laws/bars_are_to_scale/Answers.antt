use Rattle.th_picture.proofs.Sizes.{to_scale}
use Rattle.th_picture.proofs.laws.bars_are_to_scale.Goals as goal

pub returns : goal.returns
returns c = to_scale
