use Rattle.std.proofs.Common.{◌≡◌, fold, take}
use Rattle.th_picture.specs.Scales.{lower}
use Rattle.th_picture.proofs.scales.lowest.Given as goal

abbrev pub invariant-loop-point : goal.invariant-loop-point
invariant-loop-point l = l.least ≡ fold lower l.start (take l.point-index l.points)
