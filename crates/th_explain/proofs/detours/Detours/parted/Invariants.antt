use Rattle.std.proofs.Common.{◌≡◌}
use Rattle.th_explain.proofs.detours.Detours.parted.Given as goal

abbrev pub invariant-loop-place : goal.invariant-loop-place
invariant-loop-place l = l.self.rerouted.case.now ≡ l.fn.self.rerouted.case.now
