use Rattle.std.proofs.Common.{arith}
use Rattle.th_circulation.proofs.BalanceLemmas.{bounded_from}
use Rattle.th_circulation.proofs.flows.are_bounded.Goals as goal

pub returns : goal.returns
returns c holds = bounded_from c.args.weights.now c.args.flows.now c.if-flows-weights.false (λ k within. c.loop-k.invariant k (omega (arith, within, c.loop-k-test.false)))
