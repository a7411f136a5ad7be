use Rattle.std.proofs.Common.{◌≡◌, ◌*◌, ◌≤◌, ◌^◌, sum_by, take, unsigned_abs}
use Rattle.std.specs.List.{zip}
use Rattle.th_checker.specs.Inside.Tests.{residuals_at}
use Rattle.th_checker.proofs.observations.Tested.cost.Given as goal

abbrev pub invariant-loop-i : goal.invariant-loop-i
invariant-loop-i l = record {
  total : l.total ≡ sum_by (λ pair. pair.0 * unsigned_abs pair.1) (take l.i (zip l.self.weights.now (residuals_at (zip l.self.observations.now l.self.ends.now) l.heights)));
  small : l.total ≤ l.i * 2 ^ 95;
}
