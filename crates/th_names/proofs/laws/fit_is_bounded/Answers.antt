use Rattle.th_names.proofs.FitLemmas.{target_bound, station_bound}
use Rattle.th_names.proofs.laws.fit_is_bounded.Goals as goal

pub returns : goal.returns
returns c = record { target = target_bound; station = station_bound }
