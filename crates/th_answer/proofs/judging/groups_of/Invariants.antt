use Rattle.std.proofs.Common.{◌≡◌, ℕ, ℤ, List, map, take}
use Rattle.th_answer.specs.Corrected.{Corrected}
use Rattle.th_answer.specs.Groups.{group_of}
use Rattle.th_answer.specs.Inside.Judging.{IsJudge, judged_in}
use Rattle.th_answer.proofs.judging.groups_of.Given as goal

abbrev pub invariant-loop-place : goal.invariant-loop-place
invariant-loop-place l =
    (heights : List ℕ → ℤ) (after : List Corrected) → IsJudge l.judge heights after → l.groups.items ≡ map (group_of (judged_in l.judge heights after)) (take l.place l.judge.network.now.observations)
