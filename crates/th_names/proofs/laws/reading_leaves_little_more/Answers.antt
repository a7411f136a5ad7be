use Rattle.th_names.proofs.GrowthLemmas.{target_little_more, station_little_more, sign_little_more}
use Rattle.th_names.proofs.PointLemmas.{point_little_more}
use Rattle.th_names.proofs.laws.reading_leaves_little_more.Goals as goal

pub returns : goal.returns
returns c = record { target = target_little_more; station = station_little_more; sign = sign_little_more; point = point_little_more }
