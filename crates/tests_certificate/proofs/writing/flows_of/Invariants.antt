use Rattle.std.proofs.Common.{◌≤◌, All, unsigned_abs}
use Rattle.th_limits.specs.Limits.{max_weight}
use Rattle.tests_certificate.proofs.writing.flows_of.Given as goal

abbrev pub invariant-loop-flow : goal.invariant-loop-flow
invariant-loop-flow g l = All (λ flow. unsigned_abs flow ≤ max_weight) l.flows.items
