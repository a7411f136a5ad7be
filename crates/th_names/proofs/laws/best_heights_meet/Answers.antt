use Rattle.th_names.proofs.RowMeets.{point_lower, point_higher}
use Rattle.th_names.proofs.SightMeets.{target_lower, target_higher, station_lower, station_higher}
use Rattle.th_names.proofs.laws.best_heights_meet.Goals as goal

pub returns : goal.returns
returns c = record {
  target_low = target_lower;
  target_high = target_higher;
  station_low = station_lower;
  station_high = station_higher;
  point_low = point_lower;
  point_high = point_higher;
}
