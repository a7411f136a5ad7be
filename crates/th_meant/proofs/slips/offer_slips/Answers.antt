use Rattle.th_meant.proofs.PlainLemmas.{place_more}
use Rattle.th_meant.proofs.slips.offer_slips.Goals as goal

pub loop-place-preserved : goal.loop-place-preserved
loop-place-preserved c =
    place_more c.args.sought.now c.args.typed.now c.digits-digits.result.items c.deref.result.now c.loop-place.kept.items c.offer_at.new.kept.items c.args.kept.now.items c.loop-place.place c.deref.ensures.0 c.offer_at.ensures c.loop-place.invariant
