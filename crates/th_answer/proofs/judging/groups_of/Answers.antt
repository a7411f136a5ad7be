use Rattle.std.proofs.Common.{◌≡◌, ◌∙◌, ◌<◌, ℕ, List, ap, get_or, length, arith}
use Rattle.th_observations.specs.Observed.{Observed}
use Rattle.th_answer.specs.Groups.{group_of}
use Rattle.th_answer.specs.Inside.Judging.{judged_in}
use Rattle.th_answer.proofs.JudgedLemmas.{group_there}
use Rattle.th_answer.proofs.ListLemmas.{map_next}
use Rattle.th_answer.proofs.judging.groups_of.Goals as goal

pub loop-place-preserved : goal.loop-place-preserved
loop-place-preserved c = λ heights after is.
    let judge = c.args.judge.now in
    let observations : List Observed = judge.network.now.observations in
    let place : ℕ = c.loop-place.place in
    let o : Observed = c.index-observations-place.result in
    let within : place < length observations = omega (arith, c.loop-place-test.true, ap length c.observations-observations.ensures.observations) in
    let here : o ≡ get_or observations place o = c.index-observations-place.is ∙ ap (λ (own : List Observed). get_or own place o) c.observations-observations.ensures.observations in
    map_next (group_of (judged_in judge heights after)) observations c.loop-place.groups.items c.push.new.self.items place o c.group_at.result within here (c.group_at.ensures ∙ group_there judge heights after place o is within here) c.in_ok-push.ensures.items
    (c.loop-place.invariant heights after is)
