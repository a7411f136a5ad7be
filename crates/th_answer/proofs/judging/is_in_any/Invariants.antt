use Rattle.std.proofs.Common.{◌≡◌, drop}
use Rattle.std.specs.List.{list_any}
use Rattle.th_answer.specs.Inside.Judging.{is_in_any}
use Rattle.th_answer.specs.Remedies.{has_sight}
use Rattle.th_answer.proofs.judging.is_in_any.Given as goal

abbrev pub invariant-loop-remedy : goal.invariant-loop-remedy
invariant-loop-remedy l = list_any (λ remedy. has_sight remedy l.o) (drop l.remedy-index l.judge.remedies.now) ≡ is_in_any l.judge l.o
