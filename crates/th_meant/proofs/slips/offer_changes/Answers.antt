use Rattle.th_meant.proofs.PlainLemmas.{change_more}
use Rattle.th_meant.proofs.slips.offer_changes.Goals as goal

pub loop-digit-preserved : goal.loop-digit-preserved
loop-digit-preserved c =
    change_more c.args.sought.now c.args.typed.now c.args.digits.now c.args.place c.loop-digit.kept.items c.offer_change.new.kept.items _ c.loop-digit.digit-index c.loop-digit-test.true c.offer_change.ensures c.loop-digit.invariant
