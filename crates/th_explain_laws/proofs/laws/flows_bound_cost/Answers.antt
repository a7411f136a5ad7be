use Rattle.th_changes.proofs.Bounds.{bounds}
use Rattle.th_explain_laws.proofs.laws.flows_bound_cost.Goals as goal

pub returns : goal.returns
returns c = bounds
