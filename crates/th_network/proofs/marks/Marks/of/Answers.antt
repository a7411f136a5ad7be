use Rattle.std.proofs.Common.{◌∙◌, ap, arith}
use Rattle.th_network.proofs.MarkLemmas.{seeded_none, seeded_some}
use Rattle.th_network.proofs.marks.Marks.of.Goals as goal
use Rattle.th_network.proofs.marks.Marks.of.Goals.{then-fixed+in_ok-push-2, else-fixed}

pub loop-place-preserved : goal.loop-place-preserved
loop-place-preserved c =
    elim c.if-fixed.branch [
      | then-fixed+in_ok-push-2 w ↦ seeded_some _ _ _ _ _ _ _ (omega arith) c.is_some-fixed.ensures w.if-fixed.true c.in_ok-push.ensures.items (ap (λ v. v.items) w.waiting-is ∙ w.in_ok-push-2.ensures.items) c.loop-place.invariant
      | else-fixed w ↦ seeded_none _ _ _ _ _ _ _ (omega arith) c.is_some-fixed.ensures w.if-fixed.false c.in_ok-push.ensures.items (ap (λ v. v.items) w.waiting-is) c.loop-place.invariant
    ]
