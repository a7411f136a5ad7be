use Rattle.std.proofs.Common.{◌≡◌, ◌<◌, All, take, unsigned_abs}
use Rattle.th_network.specs.Heights.{heights_at}
use Rattle.th_network.specs.Networks.{points_of}
use Rattle.th_blunders.specs.Residuals.{residual_limit, residuals}
use Rattle.th_blunders.proofs.residual.residuals.Given as goal

abbrev pub invariant-loop-i : goal.invariant-loop-i
invariant-loop-i l =
    record {
      values : l.residuals.items ≡ residuals (take l.i l.observations) (heights_at (points_of l.network) l.heights);
      small : All (λ residual. unsigned_abs residual < residual_limit) l.residuals.items;
    }
