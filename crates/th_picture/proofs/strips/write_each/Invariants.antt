use Rattle.std.proofs.Common.{◌≡◌, ◌++◌, drop}
use Rattle.std.specs.List.{flat_map}
use Rattle.th_picture.specs.Strips.{label_of}
use Rattle.th_picture.proofs.strips.write_each.Given as goal

abbrev pub invariant-loop-sight : goal.invariant-loop-sight
invariant-loop-sight l = l.page ++ flat_map (label_of l.count) (drop l.sight-index l.sights) ≡ l.fn.page ++ flat_map (label_of l.count) l.sights
