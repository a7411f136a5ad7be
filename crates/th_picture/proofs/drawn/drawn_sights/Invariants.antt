use Rattle.std.proofs.Common.{◌≡◌, ◌++◌, drop, map}
use Rattle.std.specs.List.{enumerate_from}
use Rattle.th_picture.specs.Drawn.{drawn_sight}
use Rattle.th_picture.proofs.drawn.drawn_sights.Given as goal

abbrev pub invariant-loop-k : goal.invariant-loop-k
invariant-loop-k l = l.sights.items ++ map (drawn_sight l.groups l.heights) (enumerate_from l.k (drop l.k l.rows)) ≡ map (drawn_sight l.groups l.heights) (enumerate_from 0 l.rows)
