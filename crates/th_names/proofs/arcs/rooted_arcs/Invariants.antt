use Rattle.std.proofs.Common.{◌≡◌, map, take}
use Rattle.th_circulation.specs.Inside.Residuals.{residual_arcs}
use Rattle.th_network.specs.Networks.{arcs_of, weights_of}
use Rattle.th_names.specs.Inside.Rooted.{exchanged_link}
use Rattle.th_names.proofs.arcs.rooted_arcs.Given as goal

abbrev pub invariant-loop-place : goal.invariant-loop-place
invariant-loop-place l = l.arcs.items ≡ residual_arcs (take l.place (map (exchanged_link l.root) (arcs_of l.network))) (take l.place (weights_of l.network)) (take l.place l.flows)
