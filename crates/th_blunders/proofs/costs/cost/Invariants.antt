use Rattle.std.proofs.Common.{sum_by, unsigned_abs}
use Rattle.std.specs.List.{zip}
use Rattle.th_network.specs.Networks.{weights_of}
use Rattle.std.proofs.Common.{◌≡◌, ◌*◌, ◌≤◌, ℕ, ℤ, List, take}
use Rattle.th_tables.specs.Limits.{max_weight}
use Rattle.th_network.specs.Heights.{cost}
use Rattle.th_blunders.specs.Residuals.{residual_limit, residuals}
use Rattle.th_blunders.proofs.costs.cost.Given as goal

abbrev pub invariant-loop-i : goal.invariant-loop-i
invariant-loop-i l = record {
  sum : l.total ≡ sum_by (λ pair. pair.0 * unsigned_abs pair.1) (take l.i (zip (weights_of l.network) l.residuals));
  total : (heights : List ℕ → ℤ) → l.residuals ≡ residuals l.network.observations heights → l.total ≡ cost (take l.i l.network.observations) l.network.weights heights;
  small : l.total ≤ l.i * (max_weight * residual_limit);
}
