use Rattle.th_changes.proofs.Bounds.{bounds_without_net, bounds_freed}
use Rattle.th_explain_laws.proofs.laws.flow_without_net_bounds_freed.Goals as goal

pub returns : goal.returns
returns c = record { cost = bounds_without_net; freed = bounds_freed }
