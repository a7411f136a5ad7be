use Rattle.std.proofs.Common.{◌≡◌}
use Rattle.th_explain.proofs.sieve.Sieve.ask.Given as goal

abbrev pub invariant-loop-place : goal.invariant-loop-place
invariant-loop-place l = l.self.case.now ≡ l.fn.self.case.now
