use Rattle.th_names.proofs.BoundLemmas.{left_bounded, left_shown}
use Rattle.th_names.proofs.laws.flows_bound_left.Goals as goal

pub returns : goal.returns
returns c = record { bound = left_bounded; shown = left_shown }
