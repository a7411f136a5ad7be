use Rattle.th_names.proofs.GrowthLemmas.{target_fits, station_fits}
use Rattle.th_names.proofs.PointLemmas.{point_fits}
use Rattle.th_names.proofs.laws.equal_readings_fit.Goals as goal

pub returns : goal.returns
returns c = record { target = target_fits; station = station_fits; point = point_fits }
