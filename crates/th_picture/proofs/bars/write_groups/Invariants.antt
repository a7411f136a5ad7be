use Rattle.std.proofs.Common.{◌≡◌, ◌++◌, drop}
use Rattle.std.specs.List.{flat_map}
use Rattle.th_picture.specs.Strips.{bars_of}
use Rattle.th_picture.proofs.bars.write_groups.Given as goal

abbrev pub invariant-loop-group : goal.invariant-loop-group
invariant-loop-group l = l.page ++ flat_map (bars_of l.half l.sights) (drop l.group-index l.groups) ≡ l.fn.page ++ flat_map (bars_of l.half l.sights) l.groups
