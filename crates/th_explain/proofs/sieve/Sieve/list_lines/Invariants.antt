use Rattle.std.proofs.Common.{◌≡◌}
use Rattle.th_changes.specs.Rerouted.{HoldsNumber}
use Rattle.th_explain.proofs.sieve.Sieve.list_lines.Given as goal

abbrev pub invariant-loop-place : goal.invariant-loop-place
invariant-loop-place l = record {
  case : l.self.case.now ≡ l.fn.self.case.now;
  run : HoldsNumber l.self.runs.observations.now l.number l.run;
}
