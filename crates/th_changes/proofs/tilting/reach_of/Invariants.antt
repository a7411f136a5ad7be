use Rattle.std.proofs.Common.{◌≡◌, ◌≤◌, fold, take}
use Rattle.th_observations.specs.Observed.{largest_difference}
use Rattle.th_changes.specs.Reach.{nearer}
use Rattle.th_changes.proofs.tilting.reach_of.Given as goal

abbrev pub invariant-loop-o : goal.invariant-loop-o
invariant-loop-o l = record {
  reach : l.reach ≡ fold (nearer l.number) largest_difference (take l.o-index l.network.observations);
  small : l.reach ≤ largest_difference;
}
