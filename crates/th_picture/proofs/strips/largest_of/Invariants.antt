use Rattle.std.proofs.Common.{◌≡◌, fold, take}
use Rattle.th_picture.specs.Strips.{larger}
use Rattle.th_picture.proofs.strips.largest_of.Given as goal

abbrev pub invariant-loop-sight : goal.invariant-loop-sight
invariant-loop-sight l = l.most ≡ fold (larger l.limit) 0 (take l.sight-index l.sights)
