use Rattle.std.proofs.Common.{◌≡◌, ◌≤◌, ◌*◌, unsigned_abs}
use Rattle.th_tables.specs.Limits.{max_weight}
use Rattle.th_changes.specs.Inside.Sums.{flows_of}
use Rattle.th_changes.proofs.NetLemmas.{net_to}
use Rattle.th_changes.proofs.kept.KeptFlows.net_by_touch.Given as goal

abbrev pub invariant-loop-i : goal.invariant-loop-i
invariant-loop-i l = record {
  sum : l.net ≡ net_to l.number l.self.case.now.network.now.observations (flows_of l.self.sums.items) l.i;
  small : unsigned_abs l.net ≤ l.i * max_weight;
}
