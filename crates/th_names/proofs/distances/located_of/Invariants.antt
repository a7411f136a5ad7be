use Rattle.std.proofs.Common.{take}
use Rattle.std.specs.List.{AllZip}
use Rattle.th_names.specs.Nears.{IsLocated}
use Rattle.th_names.proofs.distances.located_of.Given as goal

abbrev pub invariant-loop-k : goal.invariant-loop-k
invariant-loop-k l = AllZip (IsLocated l.network l.naming) (take l.k l.points) l.located.items
