use Rattle.std.proofs.Common.{◌≡◌, ◌<◌, ◌≤◌, All, Contains, map, take, unsigned_abs}
use Rattle.th_blunders.specs.Residuals.{residual_limit}
use Rattle.th_remarks.proofs.marked.largest.Given as goal

abbrev pub invariant-loop-residual : goal.invariant-loop-residual
invariant-loop-residual l = record {
  small : l.largest < residual_limit;
  largest : All (λ residual. unsigned_abs residual ≤ l.largest) (take l.residual-index l.residuals);
  reached : 0 < l.residual-index → Contains (map unsigned_abs (take l.residual-index l.residuals)) l.largest;
  none : l.residual-index ≡ 0 → l.largest ≡ 0;
}
