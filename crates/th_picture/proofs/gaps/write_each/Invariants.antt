use Rattle.std.proofs.Common.{◌≡◌, ◌++◌, drop}
use Rattle.std.specs.List.{flat_map}
use Rattle.th_picture.specs.Gaps.{gap_of}
use Rattle.th_picture.proofs.gaps.write_each.Given as goal

abbrev pub invariant-loop-sight : goal.invariant-loop-sight
invariant-loop-sight l = l.page ++ flat_map (gap_of l.frame l.group) (drop l.sight-index l.sights) ≡ l.fn.page ++ flat_map (gap_of l.frame l.group) l.sights
