use Rattle.std.proofs.Common.{◌≡◌, take}
use Rattle.th_circulation.specs.Inside.Phases.{differences_in}
use Rattle.th_circulation.proofs.differences.set_differences.Given as goal

abbrev pub invariant-loop-place : goal.invariant-loop-place
invariant-loop-place l =
    take l.place l.differences ≡ differences_in l.phase (take l.place l.links)
