use Rattle.std.proofs.Common.{◌≡◌, map, take}
use Rattle.th_network.specs.Heights.{heights_at}
use Rattle.th_network.specs.Networks.{points_of}
use Rattle.th_notes.specs.Twins.{spot_at}
use Rattle.th_notes.proofs.twins.spots_of.Given as goal

abbrev pub invariant-loop-k : goal.invariant-loop-k
invariant-loop-k l = l.spots.items ≡ map (spot_at (heights_at (points_of l.network) l.low)) (take l.k (points_of l.network))
