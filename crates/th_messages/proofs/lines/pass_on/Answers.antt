use Rattle.std.proofs.Common.{◌≡◌, ◌-◌, length, take, drop, rules, arith, length-drop}
use Rattle.std.proofs.lemmas.List.{take_all}
use Rattle.th_messages.proofs.LineLemmas.{appended_more}
use Rattle.th_messages.proofs.lines.pass_on.Goals as goal

pub loop-done-preserved : goal.loop-done-preserved
loop-done-preserved g c =
    let text = c.args.bytes.now in
    let rest = drop c.loop-done.done text in
    let whole : take (length text - c.loop-done.done) rest ≡ rest = take_all _ _ (omega (arith, length-drop c.loop-done.done text)) in
    (appended_more _ _ _ text _ _ c.loop-done.invariant.0 (rw whole at c.in_ok-done.ensures.takes.taken), search rules, search rules, search rules, search rules)
