use Rattle.std.proofs.Common.{◌≡◌}
use Rattle.th_cuts.proofs.sweeps.Sweep.pull_across.Given as goal

abbrev pub invariant-loop-number : goal.invariant-loop-number
invariant-loop-number l = record {
  drain : l.flow.drain ≡ l.fn.flow.drain;
  value : l.flow.value ≡ l.fn.flow.value;
}
