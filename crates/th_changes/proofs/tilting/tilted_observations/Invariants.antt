use Rattle.std.proofs.Common.{◌≡◌, map, take}
use Rattle.th_changes.specs.Tilted.{tilted_observation}
use Rattle.th_changes.proofs.tilting.tilted_observations.Given as goal

abbrev pub invariant-loop-o : goal.invariant-loop-o
invariant-loop-o l = l.own.items ≡ map (tilted_observation l.number l.change) (take l.o-index l.observations)
