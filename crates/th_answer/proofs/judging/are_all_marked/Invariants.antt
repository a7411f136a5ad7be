use Rattle.std.proofs.Common.{◌≡◌, drop}
use Rattle.th_answer.specs.Inside.Judging.{all_marked}
use Rattle.th_answer.proofs.judging.are_all_marked.Given as goal

abbrev pub invariant-loop-own : goal.invariant-loop-own
invariant-loop-own l = all_marked (drop l.own-index l.corrected) l.place ≡ all_marked l.corrected l.place
