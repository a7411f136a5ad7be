use Rattle.std.proofs.Common.{◌≡◌, ◌++◌, drop}
use Rattle.std.specs.List.{enumerate_from, flat_map}
use Rattle.th_picture.specs.Points.{point_shape}
use Rattle.th_picture.proofs.points.write_shapes.Given as goal

abbrev pub invariant-loop-k : goal.invariant-loop-k
invariant-loop-k l = l.page ++ flat_map (point_shape l.frame) (enumerate_from l.k (drop l.k l.points)) ≡ l.fn.page ++ flat_map (point_shape l.frame) (enumerate_from 0 l.points)
