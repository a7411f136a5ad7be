use Rattle.std.proofs.Common.{◌≡◌, ◌++◌, drop, map}
use Rattle.std.specs.List.{enumerate_from}
use Rattle.th_picture.specs.Drawn.{drawn_point}
use Rattle.th_picture.proofs.drawn.drawn_points.Given as goal

abbrev pub invariant-loop-k : goal.invariant-loop-k
invariant-loop-k l = l.points.items ++ map (drawn_point l.heights) (enumerate_from l.k (drop l.k l.rows)) ≡ map (drawn_point l.heights) (enumerate_from 0 l.rows)
