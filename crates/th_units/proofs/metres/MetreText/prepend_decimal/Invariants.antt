use Rattle.std.proofs.Common.{◌≡◌, ◌++◌, decimal}
use Rattle.th_units.proofs.metres.MetreText.prepend_decimal.Given as goal

abbrev pub invariant-loop-rest : goal.invariant-loop-rest
invariant-loop-rest l = decimal l.rest ++ l.self ≡ decimal l.number ++ l.initial.self

abbrev pub decreases-loop-rest : goal.decreases-loop-rest
decreases-loop-rest l = l.rest
