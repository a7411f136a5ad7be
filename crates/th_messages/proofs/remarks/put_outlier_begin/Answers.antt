use Rattle.std.proofs.Common.{◌≡◌, ◌*◌, pos, arith, of_z, to_z, w64}
use Rattle.std.proofs.lemmas.Int.{ints}
use Rattle.th_messages.proofs.LineLemmas.{put_then}
use Rattle.th_messages.specs.Lines.{part_calls}
use Rattle.th_messages.proofs.remarks.put_outlier_begin.Goals as goal

pub returns : goal.returns
returns g c =
    let same : to_z w64 (of_z w64 (pos c.args.note.now.size)) ≡ pos c.args.note.now.size = omega (arith, ints, c.args.note.now.in_range) in
    let from_put-2 = put_then _ _ _ _ (5 * part_calls) _ _ _ _ _ (rw c.in_ok-put-2.was at c.put-2.ensures) c.put_place.ensures (omega arith) in
    let from_put_metres = put_then _ _ _ _ (6 * part_calls) _ _ _ _ _ (rw (c.in_ok-put_metres.was, same) at c.put_metres.ensures) from_put-2 (omega arith) in
    put_then _ _ _ _ _ _ _ _ _ _ (rw c.in_ok-put.was at c.put.ensures) from_put_metres (omega arith)
