use Rattle.std.proofs.Common.{arith, length}
use Rattle.th_changes.proofs.SumLemmas.{written_flows}
use Rattle.th_changes.proofs.summing.write_flows.Goals as goal

pub returns : goal.returns
returns c =
    let are = c.loop-k.invariant in
    written_flows c.args.sums.now c.loop-k.flows (record {
      each = are.each;
      differ = λ k within. are.differ k (omega (arith, within, c.loop-k.auto.flows, c.loop-k-test.false));
    })
