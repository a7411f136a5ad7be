use Rattle.std.proofs.Common.{◌≡◌, ◌≤◌, take}
use Rattle.std.specs.List.{count_by}
use Rattle.th_blunders.specs.Blunders.{is_blunder}
use Rattle.th_blunders.proofs.blunder.blunder_count.Given as goal

abbrev pub invariant-loop-residual : goal.invariant-loop-residual
invariant-loop-residual l = record {
  count : l.count ≡ count_by (is_blunder l.limit) (take l.residual-index l.residuals);
  few : l.count ≤ l.residual-index;
}
