use Rattle.std.proofs.Common.{◌≡◌, ◌+◌, drop}
use Rattle.th_meant.specs.Inside.Nearest.{place_of}
use Rattle.th_meant.proofs.nearest.place_of.Given as goal

abbrev pub invariant-loop-place : goal.invariant-loop-place
invariant-loop-place l = l.place + place_of l.proposed l.height (drop l.place l.kept) ≡ place_of l.proposed l.height l.kept
