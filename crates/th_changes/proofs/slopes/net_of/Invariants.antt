use Rattle.std.proofs.Common.{◌≡◌, ◌≤◌, ◌*◌, take, unsigned_abs}
use Rattle.std.specs.List.{zip}
use Rattle.th_network.specs.Circulation.{total_by}
use Rattle.th_tables.specs.Limits.{max_weight}
use Rattle.th_changes.proofs.SlopeLemmas.{nets}
use Rattle.th_changes.proofs.slopes.net_of.Given as goal

abbrev pub invariant-loop-i : goal.invariant-loop-i
invariant-loop-i l = record {
  sum : l.net ≡ total_by (nets l.number) (take l.i (zip l.network.observations l.flows));
  small : unsigned_abs l.net ≤ l.i * max_weight;
}
