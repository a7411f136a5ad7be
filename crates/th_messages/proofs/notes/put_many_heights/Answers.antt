use Rattle.std.proofs.Common.{◌≡◌, ◌*◌, arith, of_z, to_z, w64}
use Rattle.std.proofs.lemmas.Int.{ints}
use Rattle.th_messages.proofs.LineLemmas.{put_then}
use Rattle.th_messages.specs.Lines.{part_calls}
use Rattle.th_messages.proofs.notes.put_many_heights.Goals as goal

pub returns : goal.returns
returns g c =
    let same : to_z w64 (of_z w64 c.args.note.now.apart) ≡ c.args.note.now.apart = omega (arith, ints, c.args.note.now.in_range) in
    let from_put_name = put_then _ _ _ _ (2 * part_calls) _ _ _ _ _ (rw c.in_ok-put_name.was at c.put_name.ensures) c.put-2.ensures (omega arith) in
    let from_put = put_then _ _ _ _ (3 * part_calls) _ _ _ _ _ (rw c.in_ok-put.was at c.put.ensures) from_put_name (omega arith) in
    let from_put_metres = put_then _ _ _ _ (4 * part_calls) _ _ _ _ _ (rw (c.in_ok-put_metres.was, same) at c.put_metres.ensures) from_put (omega arith) in
    put_then _ _ _ _ _ _ _ _ _ _ (rw c.in_ok-put_points.was at c.put_points.ensures) from_put_metres (omega arith)
