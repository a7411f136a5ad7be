use Rattle.std.proofs.Common.{◌≡◌, ◌≤◌, ◌*◌, unsigned_abs}
use Rattle.th_tables.specs.Limits.{max_weight}
use Rattle.th_changes.specs.Inside.Sums.{sum_between}
use Rattle.th_changes.proofs.nets.sum_between.Given as goal

abbrev pub invariant-loop-i : goal.invariant-loop-i
invariant-loop-i l = record {
  sum : l.sum ≡ sum_between l.flows l.start l.i;
  small : unsigned_abs l.sum ≤ l.i * max_weight;
}
