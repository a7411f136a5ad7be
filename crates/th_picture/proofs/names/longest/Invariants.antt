use Rattle.std.proofs.Common.{◌≡◌, fold, take}
use Rattle.th_picture.specs.Names.{longer}
use Rattle.th_picture.proofs.names.longest.Given as goal

abbrev pub invariant-loop-point : goal.invariant-loop-point
invariant-loop-point l = l.most ≡ fold longer 0 (take l.point-index l.points)
