use Rattle.std.proofs.Common.{◌≡◌, Bool, map}
use Rattle.th_observations.specs.Observed.{Observed}
use Rattle.th_reliability.proofs.TargetLemmas.{AreFound, AreSized}
use Rattle.th_reliability.proofs.targets.targets_of.Given as goal

abbrev pub invariant-loop-i : goal.invariant-loop-i
invariant-loop-i l = record {
  sized : AreSized l.ground.network.now l.ground.edges.items l.i l.weight l.rooms.items;
  found : (group : Observed → Bool) → l.mistaken ≡ map group l.ground.network.now.observations → AreFound l.ground.network.now group l.start l.i l.weight l.rooms.items l.targets.items;
}
