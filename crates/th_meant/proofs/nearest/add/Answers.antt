use Rattle.std.proofs.Common.{arith, ap, length, of_z, to_z, w64}
use Rattle.std.proofs.lemmas.Int.{ints}
use Rattle.th_meant.proofs.PlainLemmas.{added_new_as, added_there_as}
use Rattle.th_meant.proofs.nearest.add.Goals as goal

pub returns-then-is_at : goal.returns-then-is_at
returns-then-is_at c =
    added_there_as c.args.proposed.now c.args.height (to_z w64 (of_z w64 c.args.height)) c.args.kept.now.items c.deref.result.now c.deref-2.result.now c.place_of-place.result c.is_at.result (omega (arith, ints))
    c.deref.ensures.0 c.deref-2.ensures.0 c.place_of-place.ensures.place c.is_at.ensures c.if-is_at.true (omega (arith, ap length c.deref.ensures.0, c.deref.ensures.1))

pub returns : goal.returns
returns c =
    added_new_as c.args.proposed.now c.args.height (to_z w64 (of_z w64 c.args.height)) c.args.kept.now.items c.deref.result.now c.deref-2.result.now c.put.new.kept.items c.place_of-place.result c.is_at.result (omega (arith, ints))
    c.deref.ensures.0 c.deref-2.ensures.0 c.place_of-place.ensures.place c.is_at.ensures c.if-is_at.false c.put.ensures
