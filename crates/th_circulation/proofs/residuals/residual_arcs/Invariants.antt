use Rattle.std.proofs.Common.{◌≡◌, ◌<◌, ◌≤◌, ℕ, get_or, take}
use Rattle.th_network.specs.Networks.{arcs_of, weights_of}
use Rattle.th_circulation.specs.Inside.Residuals.{residual_arcs}
use Rattle.th_circulation.proofs.residuals.residual_arcs.Given as goal

abbrev pub invariant-loop-place : goal.invariant-loop-place
invariant-loop-place l = record {
  arcs : l.arcs.items ≡ residual_arcs (take l.place (arcs_of l.network)) (take l.place (weights_of l.network)) (take l.place l.flows);
  heavy : (k : ℕ) → k < l.place → 1 ≤ get_or (weights_of l.network) k 0;
}
