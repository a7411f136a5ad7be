use Rattle.std.proofs.Common.{◌≡◌, fold, take}
use Rattle.th_picture.specs.Scales.{higher}
use Rattle.th_picture.proofs.scales.highest.Given as goal

abbrev pub invariant-loop-point : goal.invariant-loop-point
invariant-loop-point l = l.greatest ≡ fold higher l.start (take l.point-index l.points)
