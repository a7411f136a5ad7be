use Rattle.th_names.proofs.GrowthLemmas.{target_no_more, station_no_more, sign_no_more}
use Rattle.th_names.proofs.PointLemmas.{point_no_more}
use Rattle.th_names.proofs.laws.reading_explains_no_more.Goals as goal

pub returns : goal.returns
returns c = record { target = target_no_more; station = station_no_more; sign = sign_no_more; point = point_no_more }
