use Rattle.std.proofs.Common.{◌<◌, All, unsigned_abs}
use Rattle.th_blunders.specs.Residuals.{residual_limit}
use Rattle.tests_report.proofs.residuals.residuals_of.Given as goal

abbrev pub invariant-loop-residual : goal.invariant-loop-residual
invariant-loop-residual g l = All (λ residual. unsigned_abs residual < residual_limit) l.residuals.items
