use Rattle.std.proofs.Common.{arith}
use Rattle.std.proofs.lemmas.Int.{ints}
use Rattle.th_meant.proofs.PlainLemmas.{offer_more}
use Rattle.th_meant.proofs.nearest.offer_all.Goals as goal

pub loop-height-preserved : goal.loop-height-preserved
loop-height-preserved c =
    offer_more c.args.sought.now c.loop-height.kept.items c.offer.new.kept.items c.args.kept.now.items c.args.heights.now c.loop-height.height-index _ c.loop-height-test.true (omega (arith, ints)) c.offer.ensures c.loop-height.invariant
