use Rattle.th_names.proofs.GapLemmas.{between_row, between_station, between_target}
use Rattle.th_names.proofs.laws.two_adjustments_give_the_ends.Goals as goal

pub returns : goal.returns
returns c = record { target = between_target; station = between_station; row = between_row }
