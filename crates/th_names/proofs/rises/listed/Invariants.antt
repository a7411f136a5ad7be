use Rattle.std.proofs.Common.{◌≡◌, map, take}
use Rattle.th_network.specs.Networks.{points_of}
use Rattle.th_search.specs.Potentials.{value_at}
use Rattle.th_names.specs.Inside.Rooted.{rise_by, root_of}
use Rattle.th_names.proofs.rises.listed.Given as goal

abbrev pub invariant-loop-place : goal.invariant-loop-place
invariant-loop-place l = l.rises.items ≡ map (λ name. rise_by l.root l.way (value_at l.distances) (root_of l.network name)) (take l.place (points_of l.network))
