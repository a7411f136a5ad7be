use Rattle.std.proofs.Common.{◌≡◌, map, take}
use Rattle.th_blunders.specs.Blunders.{is_blunder}
use Rattle.th_answer.proofs.correcting.marks_of.Given as goal

abbrev pub invariant-loop-residual : goal.invariant-loop-residual
invariant-loop-residual l = l.marks.items ≡ map (is_blunder l.limit) (take l.residual-index l.residuals)
