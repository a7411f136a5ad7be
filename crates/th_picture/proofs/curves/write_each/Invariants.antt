use Rattle.std.proofs.Common.{◌≡◌, ◌++◌, drop}
use Rattle.std.specs.List.{flat_map}
use Rattle.th_picture.specs.Curves.{drawn_group}
use Rattle.th_picture.proofs.curves.write_each.Given as goal

abbrev pub invariant-loop-group : goal.invariant-loop-group
invariant-loop-group l = l.page ++ flat_map (drawn_group l.frame l.sights) (drop l.group-index l.groups) ≡ l.fn.page ++ flat_map (drawn_group l.frame l.sights) l.groups
