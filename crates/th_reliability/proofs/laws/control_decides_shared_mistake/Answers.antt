use Rattle.th_reliability.proofs.SharedLemmas.{decided_by_control, one_mistake, shown_without_points}
use Rattle.th_reliability.proofs.SingleLemmas.{single}
use Rattle.th_reliability.proofs.laws.control_decides_shared_mistake.Goals as goal

pub returns : goal.returns
returns c = record { decided = decided_by_control; single = single; one = one_mistake; none = shown_without_points }
