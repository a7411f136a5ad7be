use Rattle.th_circulation.specs.Inside.Balances.{AreBalances}
use Rattle.th_circulation.proofs.flows.add_all.Given as goal

abbrev pub invariant-loop-k : goal.invariant-loop-k
invariant-loop-k l = AreBalances l.graph.links.now l.flows l.k l.balances
