use Rattle.std.proofs.Common.{◌≡◌, ◌+◌, drop, nat_lt, unsigned_abs}
use Rattle.std.specs.List.{position_from, zip}
use Rattle.th_checker.specs.Inside.Tests.{too_large_at}
use Rattle.th_checker.proofs.observations.Tested.first_too_large.Given as goal

abbrev pub invariant-loop-i : goal.invariant-loop-i
invariant-loop-i l = position_from (λ pair. nat_lt pair.0 (unsigned_abs pair.1)) (l.i + 1) (drop l.i (zip l.self.weights.now l.self.flows.now)) ≡ too_large_at l.self.weights.now l.self.flows.now
