use Rattle.std.proofs.Common.{◌≡◌, take}
use Rattle.th_blunders.specs.Blunders.{blunders}
use Rattle.th_blunders.proofs.blunder.blunders.Given as goal

abbrev pub invariant-loop-i : goal.invariant-loop-i
invariant-loop-i l = l.numbers.items ≡ blunders l.limit (take l.i l.residuals)
