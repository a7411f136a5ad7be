use Rattle.std.proofs.Common.{◌≡◌}
use Rattle.th_explain.proofs.detours.send_back.Given as goal

abbrev pub invariant-loop-walk : goal.invariant-loop-walk
invariant-loop-walk l = l.rerouted.case.now ≡ l.fn.rerouted.case.now

abbrev pub invariant-loop-arc : goal.invariant-loop-arc
invariant-loop-arc l = l.rerouted.case.now ≡ l.fn.rerouted.case.now
