use Rattle.std.proofs.Common.{◌≡◌, ◌≤◌, ◌*◌, take}
use Rattle.th_tables.specs.Limits.{max_weight}
use Rattle.th_reliability.specs.Blunders.{weight_in}
use Rattle.th_reliability.specs.Sights.{in_sights}
use Rattle.th_reliability.proofs.runs.Runs.weight_of.Given as goal

abbrev pub invariant-loop-i : goal.invariant-loop-i
invariant-loop-i l = record {
  sum : l.sum ≡ weight_in (take l.i l.network.observations) l.network.weights (in_sights l.sights);
  small : l.sum ≤ l.i * max_weight;
}
