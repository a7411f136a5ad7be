use Rattle.std.proofs.Common.{◌≡◌, ◌*◌, pos, arith, of_z, to_z, w64}
use Rattle.std.proofs.lemmas.Int.{ints}
use Rattle.th_messages.proofs.LineLemmas.{put_then}
use Rattle.th_messages.specs.Lines.{part_calls}
use Rattle.th_messages.proofs.remarks.put_marked.Goals as goal

pub returns : goal.returns
returns g c =
    let same : to_z w64 (of_z w64 (pos c.args.note.now.largest)) ≡ pos c.args.note.now.largest = omega (arith, ints, c.args.note.now.in_range) in
    let from_put_metres = put_then _ _ _ _ (2 * part_calls) _ _ _ _ _ (rw (c.in_ok-put_metres.was, same) at c.put_metres.ensures) c.put.ensures (omega arith) in
    put_then _ _ _ _ _ _ _ _ _ _ (rw c.in_ok-put_marked_begin.was at c.put_marked_begin.ensures) from_put_metres (omega arith)
