use Rattle.th_names.proofs.MendLemmas.{target_mends, station_mends, sign_mends, point_mends}
use Rattle.th_names.proofs.laws.readings_mend.Goals as goal

pub returns : goal.returns
returns c = record { target = target_mends; station = station_mends; sign = sign_mends; point = point_mends }
