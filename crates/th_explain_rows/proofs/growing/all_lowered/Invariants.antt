use Rattle.std.proofs.Common.{◌≡◌, ◌++◌, drop, map}
use Rattle.th_explain_rows.specs.Inside.Growing.{lowered}
use Rattle.th_explain_rows.proofs.growing.all_lowered.Given as goal

abbrev pub invariant-loop-own : goal.invariant-loop-own
invariant-loop-own l = l.findings.items ++ map (lowered l.least l.left) (drop l.own-index l.found) ≡ map (lowered l.least l.left) l.found
