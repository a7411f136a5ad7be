use Rattle.th_changes.proofs.SumLemmas.{AreFlowsTo}
use Rattle.th_changes.proofs.summing.write_flows.Given as goal

abbrev pub invariant-loop-k : goal.invariant-loop-k
invariant-loop-k l = AreFlowsTo l.sums l.k l.flows
