use Rattle.std.proofs.Common.{◌≡◌, ◌≤◌, ◌*◌, unsigned_abs}
use Rattle.th_tables.specs.Limits.{max_weight}
use Rattle.th_changes.specs.Inside.Sums.{sum_before}
use Rattle.th_changes.proofs.SumLemmas.{AreSumsTo}
use Rattle.th_changes.proofs.summing.sum_up.Given as goal

abbrev pub invariant-loop-k : goal.invariant-loop-k
invariant-loop-k l = record {
  sum : l.sum ≡ sum_before l.flows l.k;
  small : unsigned_abs l.sum ≤ l.k * max_weight;
  sums : AreSumsTo l.flows l.k l.sums;
}
