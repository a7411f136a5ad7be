use Rattle.std.proofs.Common.{◌≡◌, ◌++◌, drop}
use Rattle.std.specs.List.{enumerate_from, flat_map}
use Rattle.th_picture.specs.Names.{name_of}
use Rattle.th_picture.proofs.names.write_each.Given as goal

abbrev pub invariant-loop-k : goal.invariant-loop-k
invariant-loop-k l = l.page ++ flat_map (name_of l.frame l.turn) (enumerate_from l.k (drop l.k l.points)) ≡ l.fn.page ++ flat_map (name_of l.frame l.turn) (enumerate_from 0 l.points)
