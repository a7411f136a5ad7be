use Rattle.std.proofs.Common.{◌≡◌, ◌++◌, drop}
use Rattle.std.specs.List.{flat_map}
use Rattle.th_picture.specs.Strips.{bar_in}
use Rattle.th_picture.proofs.bars.write_each.Given as goal

abbrev pub invariant-loop-sight : goal.invariant-loop-sight
invariant-loop-sight l = l.page ++ flat_map (bar_in l.half l.count l.group) (drop l.sight-index l.sights) ≡ l.fn.page ++ flat_map (bar_in l.half l.count l.group) l.sights
