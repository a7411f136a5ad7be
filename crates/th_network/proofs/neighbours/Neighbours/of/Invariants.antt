use Rattle.std.proofs.Common.{take}
use Rattle.th_network.specs.Inside.Neighbours.{AreNeighbours}
use Rattle.th_network.proofs.neighbours.Neighbours.of.Given as goal

abbrev pub invariant-loop-station : goal.invariant-loop-station
invariant-loop-station l = AreNeighbours l.count (take l.station-index l.ends) l.neighbours
