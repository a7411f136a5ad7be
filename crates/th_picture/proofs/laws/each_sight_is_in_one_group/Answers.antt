use Rattle.th_picture.proofs.Groupings.{each_once}
use Rattle.th_picture.proofs.laws.each_sight_is_in_one_group.Goals as goal

pub returns : goal.returns
returns c = each_once
