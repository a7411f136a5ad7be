use Rattle.std.proofs.Common.{◌≡◌, ◌++◌, drop}
use Rattle.std.specs.List.{flat_map}
use Rattle.th_picture.specs.Curves.{path_in}
use Rattle.th_picture.proofs.curves.write_paths.Given as goal

abbrev pub invariant-loop-sight : goal.invariant-loop-sight
invariant-loop-sight l = l.page ++ flat_map (path_in l.frame l.group) (drop l.sight-index l.sights) ≡ l.fn.page ++ flat_map (path_in l.frame l.group) l.sights
