use Rattle.std.proofs.Common.{arith, ◌+◌}
use Rattle.std.proofs.lemmas.Grind.{common_steps}
use Rattle.th_page.proofs.LineLemmas.{lines_step, range_none}
use Rattle.th_page.proofs.texts.lent_lines.Goals.{then-byte-eq10+in_ok-push, else-byte-eq10}
use Rattle.th_page.proofs.texts.lent_lines.Goals as goal

pub loop-place-preserved : goal.loop-place-preserved
loop-place-preserved c =
    let text = c.args.text.now in
    let step = lines_step text c.loop-place.start c.loop-place.place c.loop-place.invariant.start (omega arith) in
    elim c.if-byte-eq10.branch [
      | then-byte-eq10+in_ok-push w ↦ record { start = omega arith; lines = let none = range_none text (c.loop-place.place + 1) in let items = w.in_ok-push.ensures.items in grind (arith, common_steps) }
      | else-byte-eq10 w ↦ record { start = omega arith; lines = grind (arith, common_steps) }
    ]
